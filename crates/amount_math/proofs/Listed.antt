-- What a list of entries has of an element: by its first entry there, and by all of them together.
use Rattle.std.proofs.Common.{◌⊎◌, inl, inr, ◌≡◌, ◌≢◌, ℕ, zero, suc, ◌+◌, ◌<◌, ◌≤◌, ◌++◌, ◌&&◌, Bool, true, false, cond, Some, None, List, [], ◌∷◌, length, get_or, refl, sym, ap, subst, ◌∙◌, arith}
use lib.Dec.{T}
use Rattle.std.specs.Option.{unwrap_or}
use Rattle.std.specs.List.{All}
use Rattle.std.specs.Ordering.{is_eq, is_lt, eq_by_cmp, ordering_reverse}
use Rattle.std.specs.Cmp.{tied_itself}
use Rattle.std.specs.FinMap as fin
use Rattle.std.specs.FinMap.{find, is_sorted}
use Rattle.std.specs.FinMap.Entries.{below_all, same_entries}
use Rattle.std.proofs.lemmas.List.Elements.{All-head, All-tail, All-nil, All-from_get_or}
use Rattle.std.proofs.lemmas.List.{get_or_default}
use Rattle.amount_math.specs.Sparse.{is_something, same_found}
use Rattle.amount_math.specs.Totals.{first, second, less, equal}
use Rattle.amount_math.specs.Content.{Content, key_cmp, counts, is_zero, listed, entries, of_entries, of_entries-nil, nothing, count, count_listed, count-of_entries, unit}
use Rattle.amount_math.specs.Entries.{Entries, IsKey, IsEntry, IsRising, AreEntries, entry_at, at_key, tally, most_of_key}
use Rattle.amount_math.specs.ValueView.{HasKeys}

pub both : (a b : Bool) → T a → T b → T (a && b)
both true b p q = q
both false b p q = p

pub tied : (k : List ℕ) → eq_by_cmp key_cmp k k ≡ true
tied k = ap is_eq (tied_itself counts.total k)

pub same_key : (q k : List ℕ) → eq_by_cmp key_cmp q k ≡ true → q ≡ k
same_key q k e = counts.same q k (equal _ e)

-- ---- all of them together

pub tally-append : (xs ys : Entries) (k : List ℕ) → tally (xs ++ ys) k ≡ tally xs k + tally ys k
tally-append [] ys k = omega arith
tally-append (x ∷ xs) ys k = omega (arith, tally-append xs ys k)

-- of a key before all of them there is none
pub tally_below : (k : List ℕ) (es : Entries) → T (below_all key_cmp k es) → tally es k ≡ 0
tally_below k [] h = refl
tally_below k (e ∷ es) h = ap (λ r. cond (is_eq r) e.1 0 + tally es k) (less _ (first _ _ h)) ∙ omega (arith, tally_below k es (second (is_lt (key_cmp k e.0)) _ h))

pub rising_rest : (e : List ℕ × ℕ) (es : Entries) → IsRising (e ∷ es) → IsRising es
rising_rest e es h = second (below_all key_cmp e.0 es) _ h

pub below_rest : (e : List ℕ × ℕ) (es : Entries) → IsRising (e ∷ es) → T (below_all key_cmp e.0 es)
below_rest e es h = first _ (is_sorted key_cmp es) h

-- where the keys rise, each stands there once
pub listed-tally : (es : Entries) (k : List ℕ) → IsRising es → listed es k ≡ tally es k
listed-tally [] k h = refl
listed-tally (e ∷ es) k h = elim (eq_by_cmp key_cmp k e.0) as (λ b. eq_by_cmp key_cmp k e.0 ≡ b → unwrap_or (cond b (Some e.1) (find key_cmp k es)) 0 ≡ cond b e.1 0 + tally es k) [
  | true ↦ λ t. let none = subst (λ q. tally es q ≡ 0) (sym (same_key k e.0 t)) (tally_below e.0 es (below_rest e es h)) in omega (arith, none)
  | false ↦ λ t. omega (arith, listed-tally es k (rising_rest e es h))
] refl

pub at_own_key : (k : List ℕ) (n : ℕ) → at_key k k n ≡ n
at_own_key k n = ap (λ b. cond b n 0) (tied k)

-- ---- the first one

abbrev pub Found : (List ℕ × ℕ → Type 0) → Entries → List ℕ → Type 0
Found P es k = (find key_cmp k es ≡ None) ⊎ ((n : ℕ) × (find key_cmp k es ≡ Some n) × P (k, n))

-- what holds of each entry holds of the one that is found
pub found : (P : List ℕ × ℕ → Type 0) (es : Entries) (k : List ℕ) → All P es → Found P es k
found P [] k all = inl refl
found P (e ∷ es) k all = elim (eq_by_cmp key_cmp k e.0) as (λ b. eq_by_cmp key_cmp k e.0 ≡ b → (cond b (Some e.1) (find key_cmp k es) ≡ None) ⊎ ((n : ℕ) × (cond b (Some e.1) (find key_cmp k es) ≡ Some n) × P (k, n))) [
  | true ↦ λ t. inr (e.1, refl, subst (λ q. P (q, e.1)) (sym (same_key k e.0 t)) (All-head P e es all))
  | false ↦ λ t. found P es k (All-tail P e es all)
] refl

module _ (es : Entries) (are : AreEntries es) where
  pub positive : (k : List ℕ) → T (is_something is_zero (find key_cmp k es))
  positive k = elim (found IsEntry es k are.each) [
    | inl none ↦ subst (λ o. T (is_something is_zero o)) (sym none) tt
    | inr at ↦ subst (λ o. T (is_something is_zero o)) (sym at.1) (some at.0 at.2.some)
  ]
    where
      some : (n : ℕ) → 0 < n → T (is_something is_zero (Some n))
      some zero h = absurd (omega (arith, h))
      some (suc n) h = tt

  -- a key of which there is some has its form, and its count is within the bound
  pub listed_key : (k : List ℕ) → listed es k ≢ 0 → IsKey k
  listed_key k some = elim (found IsEntry es k are.each) [
    | inl none ↦ absurd (some (ap (λ o. unwrap_or o 0) none))
    | inr at ↦ at.2.key
  ]

  pub listed_bounded : (k : List ℕ) → listed es k ≤ most_of_key
  listed_bounded k = elim (found IsEntry es k are.each) [
    | inl none ↦ omega (arith, ap (λ o. unwrap_or o 0) none)
    | inr at ↦ omega (arith, ap (λ o. unwrap_or o 0) at.1, at.2.bounded)
  ]

  -- the content that they stand for lists them
  pub entries-of_entries : entries (of_entries es) ≡ es
  entries-of_entries =
      let c = of_entries es in
      same_entries key_cmp counts.total counts.same (entries c) es (fin.entries_sorted c.held) are.rising (λ q.
      sym (fin.get-entries c.held q) ∙ same_found counts (fin.get c.held q) (find key_cmp q es) (c.listed q) (positive q) (count-of_entries es q))

  pub keys_have_form : HasKeys (of_entries es)
  keys_have_form = record {
    filled = no_unit (count (of_entries es) unit) refl;
    short = λ k some. (listed_key k (λ e. some (count-of_entries es k ∙ e))).short;
  }
    where
      no_unit : (n : ℕ) → count (of_entries es) unit ≡ n → count (of_entries es) unit ≡ 0
      no_unit zero e = e
      no_unit (suc n) e = absurd (omega (arith, (listed_key unit (λ z. omega (arith, z, e, count-of_entries es unit))).filled))

  pub count_bounded : (k : List ℕ) → count (of_entries es) k ≤ most_of_key
  count_bounded k = omega (arith, count-of_entries es k, listed_bounded k)

  pub count-tally : (k : List ℕ) → count (of_entries es) k ≡ tally es k
  count-tally k = count-of_entries es k ∙ listed-tally es k are.rising

pub no_entries : entries nothing ≡ []
no_entries = ap entries (sym of_entries-nil) ∙ entries-of_entries [] (record { rising = tt; each = All-nil IsEntry })

-- in a rising list each entry is the first of its key
pub found_at : (es : Entries) (i : ℕ) → IsRising es → i < length es → find key_cmp (entry_at es i).0 es ≡ Some (entry_at es i).1
found_at [] i h lt = absurd (omega (arith, lt))
found_at (e ∷ es) zero h lt = ap (λ b. cond b (Some e.1) (find key_cmp e.0 es)) (tied e.0)
found_at (e ∷ es) (suc i) h lt = ap (λ b. cond b (Some e.1) (find key_cmp (entry_at es i).0 es)) (later es i (below_rest e es h) (omega (arith, lt))) ∙ found_at es i (rising_rest e es h) (omega (arith, lt))
  where
    later : (fs : Entries) (j : ℕ) → T (below_all key_cmp e.0 fs) → j < length fs → eq_by_cmp key_cmp (entry_at fs j).0 e.0 ≡ false
    later [] j p l = absurd (omega (arith, l))
    later (f ∷ fs) zero p l = ap is_eq (counts.total.antisymm f.0 e.0 ∙ ap ordering_reverse (less _ (first _ (below_all key_cmp e.0 fs) p)))
    later (f ∷ fs) (suc j) p l = later fs j (second (is_lt (key_cmp e.0 f.0)) _ p) (omega (arith, l))

pub listed_at : (es : Entries) (i : ℕ) → IsRising es → i < length es → listed es (entry_at es i).0 ≡ (entry_at es i).1
listed_at es i h lt = ap (λ o. unwrap_or o 0) (found_at es i h lt)

-- an entry that was read at a place
pub read_entry : (es : Entries) (i : ℕ) (e : List ℕ × ℕ) → i < length es → e ≡ get_or es i e → entry_at es i ≡ e
read_entry es i e lt is = get_or_default es i ([], 0) e lt ∙ sym is

-- what a content lists is entries
pub entries_are : (c : Content) → HasKeys c → ((k : List ℕ) → count c k ≤ most_of_key) → AreEntries (entries c)
entries_are c keys bounded = record {
  rising = fin.entries_sorted c.held;
  each = All-from_get_or IsEntry (entries c) ([], 0) entry;
}
  where
    some : (n : ℕ) → T (is_something is_zero (Some n)) → 0 < n
    some zero h = absurd h
    some (suc n) h = omega arith

    filled : (k : List ℕ) → count c k ≢ 0 → 0 < length k
    filled [] h = absurd (h keys.filled)
    filled (x ∷ k) h = omega arith

    entry : (i : ℕ) → i < length (entries c) → IsEntry (get_or (entries c) i ([], 0))
    entry i lt =
        let e = entry_at (entries c) i in
        let at : find key_cmp e.0 (entries c) ≡ Some e.1 = found_at (entries c) i (fin.entries_sorted c.held) lt in
        let positive : 0 < e.1 = some e.1 (subst (λ o. T (is_something is_zero o)) (fin.get-entries c.held e.0 ∙ at) (c.listed e.0)) in
        let counted : count c e.0 ≡ e.1 = count_listed c e.0 ∙ ap (λ o. unwrap_or o 0) at in
        let there : count c e.0 ≢ 0 = λ z. omega (arith, z, counted, positive) in
        record {
          key = record { filled = filled e.0 there; short = keys.short e.0 there };
          some = positive;
          bounded = omega (arith, counted, bounded e.0);
        }
