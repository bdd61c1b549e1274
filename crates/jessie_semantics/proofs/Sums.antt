-- When a sum is a value, and what it is refused for else.
use Rattle.std.proofs.Common.{◌≡◌, ◌≢◌, ℕ, ◌<◌, ◌≤◌, List, [], ◌∷◌, true, false, cond, Some, None, Ok, Err, map, refl, sym, ap, subst, ◌∙◌, inl, inr, arith}
use lib.Dec.{T}
use Rattle.std.specs.Prelude.{nat_lt, unwrap_or}
use Rattle.std.specs.FinMap as fin
use Rattle.std.specs.FinMap.Entries.{below_all}
use Rattle.std.specs.List.{find}
use Rattle.std.specs.Ordering.{eq_by_cmp, is_lt}
use Rattle.std.specs.declared.cmp.Ordering.TheVariants.{Less}
use Rattle.std.proofs.lemmas.Bool.{cases_lt, le-leb, le-ltb, lt-leb, lt-ltb}
use Rattle.host_data.specs.amount_math.Content.{Content, count, count_listed, entries, key_cmp, listed}
use Rattle.host_data.specs.amount_math.Entries.{Entries, IsRising}
use Rattle.host_data.specs.amount_math.Totals.{first, less, second}
use Rattle.host_data.specs.amount_math.ValueView.{IsFirstPast, IsPutRefusal, IsValue, PassesBound, PassesKeys, ValueView, bag_bound, bound, fits_from_value, keys_of, most_keys, nat_bound}
use Rattle.host_data.specs.amount_math.declared.Kind.{Kind}
use Rattle.host_data.specs.amount_math.declared.Kind.TheVariants.{Nat, Set, Bag}
use Rattle.host_data.specs.amount_math.declared.PutFault.{PutFault}
use Rattle.host_data.specs.amount_math.declared.PutFault.TheVariants as put_fault
use Rattle.host_data.specs.amount_math.declared.TooMuch.{TooMuch}
use Rattle.host_data.proofs.amount_math.Listed.{below_rest, rising_rest, same_key}
use Rattle.refusals.specs.Codes.{too_much}
use Rattle.refusals.specs.Outcomes.{Fails}
use Rattle.refusals.specs.Told.{put_told}
use Rattle.refusals.specs.declared.codes.Refusal.TheVariants.{Overlap}
use Rattle.jessie_semantics.specs.Worths.{checked, elements, first_past, has_few, in_bounds}

-- ---- the first element past a bound

none_in : (most : ℕ) (c : Content) → ((k : List ℕ) → count c k ≤ most) → (ks : List (List ℕ)) → find (λ q. nat_lt most (count c q)) ks ≡ None
none_in most c h [] = refl
none_in most c h (k ∷ ks) = ap (λ b. cond b (Some k) (find (λ q. nat_lt most (count c q)) ks)) (le-ltb most (count c k) (h k)) ∙ none_in most c h ks

-- a key that stands further on is behind the first
behind : (e : List ℕ × ℕ) (es : Entries) (k : List ℕ) → T (below_all key_cmp e.0 es) → listed es k ≢ 0 → key_cmp e.0 k ≡ Less
behind e [] k h there = absurd (there refl)
behind e (f ∷ fs) k h there = elim (eq_by_cmp key_cmp k f.0) as (λ b. eq_by_cmp key_cmp k f.0 ≡ b → unwrap_or (cond b (Some f.1) (fin.find key_cmp k fs)) 0 ≢ 0 → key_cmp e.0 k ≡ Less) [
  | true ↦ λ p r. subst (λ q. key_cmp e.0 q ≡ Less) (sym (same_key k f.0 p)) (less _ (first _ _ h))
  | false ↦ λ p r. behind e fs k (second (is_lt (key_cmp e.0 f.0)) _ h) r
] refl there

first_in : (most : ℕ) (c : Content) (k : List ℕ) (es : Entries) → IsRising es → most < count c k → listed es k ≢ 0 → ((q : List ℕ) → most < count c q → key_cmp q k ≢ Less) → find (λ q. nat_lt most (count c q)) (map (λ e. e.0) es) ≡ Some k
first_in most c k [] h past there least = absurd (there refl)
first_in most c k (e ∷ es) h past there least =
    let rest = find (λ q. nat_lt most (count c q)) (map (λ (f : List ℕ × ℕ). f.0) es) in
    elim (eq_by_cmp key_cmp k e.0) as (λ b. eq_by_cmp key_cmp k e.0 ≡ b → unwrap_or (cond b (Some e.1) (fin.find key_cmp k es)) 0 ≢ 0 → cond (nat_lt most (count c e.0)) (Some e.0) rest ≡ Some k) [
      | true ↦ λ p r. let is = same_key k e.0 p in ap (λ b. cond b (Some e.0) rest) (lt-ltb most (count c e.0) (subst (λ q. most < count c q) is past)) ∙ ap Some (sym is)
      | false ↦ λ p r. ap (λ b. cond b (Some e.0) rest) (le-ltb most (count c e.0) (within (behind e es k (below_rest e es h) r))) ∙ first_in most c k es (rising_rest e es h) past r least
    ] refl there
  where
    within : key_cmp e.0 k ≡ Less → count c e.0 ≤ most
    within before = elim (cases_lt most (count c e.0)) [
      | inl over ↦ absurd (least e.0 over before)
      | inr fine ↦ fine
    ]

find_first : (most : ℕ) (c : Content) (k : List ℕ) → IsFirstPast most c k → first_past most c ≡ Some k
find_first most c k is = first_in most c k (entries c) (fin.entries_sorted c.held) is.passes there is.first
  where
    there : listed (entries c) k ≢ 0
    there e = omega (arith, is.passes, count_listed c k, e)

-- ---- a value passes

few : (kind : Kind) (c : Content) → IsValue kind c → has_few kind c ≡ true
few Nat c v = refl
few Set c v = le-leb (keys_of c) most_keys v.keyed.few
few Bag c v = le-leb (keys_of c) most_keys v.keyed.few

pub value_passes : (w : ValueView) → IsValue w.kind w.content → checked w ≡ Ok w
unfolding checked
value_passes w v =
    let fits = fits_from_value w.kind w.content v in
    ap (in_bounds w) (none_in (bound w.kind) w.content fits.each (elements w.content))
    ∙ ap (λ b. cond b (Ok w) (Err (too_much (keys_of w.content) most_keys))) (few w.kind w.content v)

-- ---- what doesn't pass

abbrev of_kind : Kind → Content → ValueView
of_kind kind c = record { kind = kind; content = c }

overlaps : (kind : Kind) (c : Content) (k : List ℕ) → kind ≡ Set → IsFirstPast 1 c k → checked (of_kind kind c) ≡ Err (Overlap k)
unfolding checked
overlaps Nat c k e is = cc
overlaps Set c k e is = ap (in_bounds (of_kind Set c)) (find_first 1 c k is)
overlaps Bag c k e is = cc

passes : (kind : Kind) (c : Content) (over : TooMuch) → kind ≢ Set → PassesBound kind c over → checked (of_kind kind c) ≡ Err (too_much over.sum over.bound)
unfolding checked
passes Nat c over ne p =
    ap (in_bounds (of_kind Nat c)) (find_first nat_bound c p.element (record { passes = p.passes; first = p.first }))
    ∙ ap (λ n. Err (too_much n nat_bound)) (sym p.counted) ∙ ap (λ n. Err (too_much over.sum n)) (sym p.bounded)
passes Set c over ne p = absurd (ne refl)
passes Bag c over ne p =
    ap (in_bounds (of_kind Bag c)) (find_first bag_bound c p.element (record { passes = p.passes; first = p.first }))
    ∙ ap (λ n. Err (too_much n bag_bound)) (sym p.counted) ∙ ap (λ n. Err (too_much over.sum n)) (sym p.bounded)

many : (kind : Kind) (c : Content) → kind ≢ Nat → most_keys < keys_of c → has_few kind c ≡ false
many Nat c ne h = absurd (ne refl)
many Set c ne h = lt-leb (keys_of c) most_keys h
many Bag c ne h = lt-leb (keys_of c) most_keys h

passes_keys : (kind : Kind) (c : Content) (over : TooMuch) → kind ≢ Nat → PassesKeys kind c over → checked (of_kind kind c) ≡ Err (too_much over.sum over.bound)
unfolding checked
passes_keys kind c over ne p =
    let w = of_kind kind c in
    ap (in_bounds w) (none_in (bound kind) c p.fits.each (elements c))
    ∙ ap (λ b. cond b (Ok w) (Err (too_much (keys_of c) most_keys))) (many kind c ne p.passes)
    ∙ ap (λ n. Err (too_much n most_keys)) (sym p.counted) ∙ ap (λ n. Err (too_much over.sum n)) (sym p.bounded)

pub refused : (w : ValueView) (fault : PutFault) → IsPutRefusal w.kind w.content fault → Fails (put_told fault) (checked w)
refused w (put_fault.Overlap key) h = overlaps w.kind w.content key h.0 h.1
refused w (put_fault.TooMuch over) h = elim h as (λ _. checked w ≡ Err (too_much over.sum over.bound)) [
  | inl p ↦ passes w.kind w.content over p.0 p.1
  | inr p ↦ passes_keys w.kind w.content over p.0 p.1
]
refused w put_fault.NoMemory h = tt
