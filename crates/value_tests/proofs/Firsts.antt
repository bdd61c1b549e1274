-- The first element past a bound: when there is one, which one it is, and that it is found among the elements of a part that alone can make it pass.
use Rattle.std.proofs.Common.{◌≡◌, ◌≢◌, ℕ, ◌<◌, ◌≤◌, List, [], ◌∷◌, Bool, true, false, cond, Option, Some, None, map, refl, sym, ap, subst, ◌∙◌, inl, inr, arith}
use lib.Dec.{T}
use Rattle.std.specs.Prelude.{nat_lt, unwrap_or}
use Rattle.std.specs.FinMap as fin
use Rattle.std.specs.FinMap.Entries.{below_all}
use Rattle.std.specs.List.{find}
use Rattle.std.specs.Ordering.{eq_by_cmp, is_lt}
use Rattle.std.specs.Cmp.{tied_itself}
use Rattle.std.specs.declared.cmp.Ordering.TheVariants.{Less}
use Rattle.std.proofs.lemmas.Bool.{cases_lt, le-ltb, lt-ltb, ltb-true}
use Rattle.std.proofs.lemmas.Option.{same_Some}
use Rattle.refusals.specs.amount_math.Content.{Content, count, count-sum, count_listed, counts, entries, key_cmp, listed, sum}
use Rattle.refusals.specs.amount_math.Entries.{Entries, IsRising}
use Rattle.refusals.specs.amount_math.Totals.{first, less, second}
use Rattle.refusals.specs.amount_math.ValueView.{IsFirstPast}
use Rattle.refusals.proofs.amount_math.Listed.{below_rest, rising_rest, same_key}
use Rattle.value_tests.specs.Firsts.{elements, first_past}

-- ---- there is none, or it is found

none_in : (most : ℕ) (c : Content) → ((k : List ℕ) → count c k ≤ most) → (ks : List (List ℕ)) → find (λ q. nat_lt most (count c q)) ks ≡ None
none_in most c h [] = refl
none_in most c h (k ∷ ks) = ap (λ b. cond b (Some k) (find (λ q. nat_lt most (count c q)) ks)) (le-ltb most (count c k) (h k)) ∙ none_in most c h ks

pub none_past : (most : ℕ) (c : Content) → ((k : List ℕ) → count c k ≤ most) → first_past most c ≡ None
none_past most c h = none_in most c h (elements c)

-- a key that stands further on is behind the first
behind : (e : List ℕ × ℕ) (es : Entries) (k : List ℕ) → T (below_all key_cmp e.0 es) → listed es k ≢ 0 → key_cmp e.0 k ≡ Less
behind e [] k h there = absurd (there refl)
behind e (f ∷ fs) k h there = elim (eq_by_cmp key_cmp k f.0) as (λ b. eq_by_cmp key_cmp k f.0 ≡ b → unwrap_or (cond b (Some f.1) (fin.find key_cmp k fs)) 0 ≢ 0 → key_cmp e.0 k ≡ Less) [
  | true ↦ λ p r. subst (λ q. key_cmp e.0 q ≡ Less) (sym (same_key k f.0 p)) (less _ (first _ _ h))
  | false ↦ λ p r. behind e fs k (second (is_lt (key_cmp e.0 f.0)) _ h) r
] refl there

first_in : (most : ℕ) (c : Content) (k : List ℕ) (es : Entries) → IsRising es → most < count c k → listed es k ≢ 0 → ((q : List ℕ) → most < count c q → key_cmp q k ≢ Less) → find (λ q. nat_lt most (count c q)) (map (λ e. e.0) es) ≡ Some k
first_in most c k [] h past there least = absurd (there refl)
first_in most c k (e ∷ es) h past there least =
    let rest = find (λ q. nat_lt most (count c q)) (map (λ (f : List ℕ × ℕ). f.0) es) in
    elim (eq_by_cmp key_cmp k e.0) as (λ b. eq_by_cmp key_cmp k e.0 ≡ b → unwrap_or (cond b (Some e.1) (fin.find key_cmp k es)) 0 ≢ 0 → cond (nat_lt most (count c e.0)) (Some e.0) rest ≡ Some k) [
      | true ↦ λ p r. let is = same_key k e.0 p in ap (λ b. cond b (Some e.0) rest) (lt-ltb most (count c e.0) (subst (λ q. most < count c q) is past)) ∙ ap Some (sym is)
      | false ↦ λ p r. ap (λ b. cond b (Some e.0) rest) (le-ltb most (count c e.0) (within (behind e es k (below_rest e es h) r))) ∙ first_in most c k es (rising_rest e es h) past r least
    ] refl there
  where
    within : key_cmp e.0 k ≡ Less → count c e.0 ≤ most
    within before = elim (cases_lt most (count c e.0)) [
      | inl over ↦ absurd (least e.0 over before)
      | inr fine ↦ fine
    ]

there_is : (most : ℕ) (c : Content) (k : List ℕ) → most < count c k → listed (entries c) k ≢ 0
there_is most c k past e = omega (arith, past, count_listed c k, e)

pub find_first : (most : ℕ) (c : Content) (k : List ℕ) → IsFirstPast most c k → first_past most c ≡ Some k
find_first most c k is = first_in most c k (entries c) (fin.entries_sorted c.held) is.passes (there_is most c k is.passes) is.first

-- ---- what is found is it

module _ (p : List ℕ → Bool) where
  abbrev keys_in : Entries → List (List ℕ)
  keys_in es = map (λ e. e.0) es

  here : (b : Bool) (e k : List ℕ) (rest : Option (List ℕ)) → cond b (Some e) rest ≡ None → (b ≡ false) × (rest ≡ None)
  here true e k rest is = absurd (cc)
  here false e k rest is = (refl, is)

  none_of : (es : Entries) (k : List ℕ) → find p (keys_in es) ≡ None → listed es k ≢ 0 → p k ≡ false
  none_of [] k is there = absurd (there refl)
  none_of (e ∷ es) k is there =
      let both = here (p e.0) e.0 k (find p (keys_in es)) is in
      elim (eq_by_cmp key_cmp k e.0) as (λ b. eq_by_cmp key_cmp k e.0 ≡ b → unwrap_or (cond b (Some e.1) (fin.find key_cmp k es)) 0 ≢ 0 → p k ≡ false) [
        | true ↦ λ t r. ap p (same_key k e.0 t) ∙ both.0
        | false ↦ λ t r. none_of es k both.1 r
      ] refl there

  found_in : (es : Entries) (k : List ℕ) → find p (keys_in es) ≡ Some k → p k ≡ true
  found_in [] k is = cc
  found_in (e ∷ es) k is = by (p e.0) refl is (found_in es k)
    where
      by : (b : Bool) → p e.0 ≡ b → cond b (Some e.0) (find p (keys_in es)) ≡ Some k → (find p (keys_in es) ≡ Some k → p k ≡ true) → p k ≡ true
      by true t at later = ap p (sym (same_Some e.0 k at)) ∙ t
      by false t at later = later at

  not_less : (k q : List ℕ) → key_cmp k q ≡ Less → key_cmp q k ≢ Less
  not_less k q before after = let turned = counts.total.antisymm k q in cc

  least_in : (es : Entries) (k : List ℕ) → IsRising es → find p (keys_in es) ≡ Some k → (q : List ℕ) → p q ≡ true → listed es q ≢ 0 → key_cmp q k ≢ Less
  least_in [] k h is q t there = absurd (there refl)
  least_in (e ∷ es) k h is q t there = by (p e.0) refl is (λ at other. least_in es k (rising_rest e es h) at q t other)
    where
      by : (b : Bool) → p e.0 ≡ b → cond b (Some e.0) (find p (keys_in es)) ≡ Some k → (find p (keys_in es) ≡ Some k → listed es q ≢ 0 → key_cmp q k ≢ Less) → key_cmp q k ≢ Less
      by true s at later =
          subst (λ x. key_cmp q x ≢ Less) (same_Some e.0 k at)
          (elim (eq_by_cmp key_cmp q e.0) as (λ b. eq_by_cmp key_cmp q e.0 ≡ b → unwrap_or (cond b (Some e.1) (fin.find key_cmp q es)) 0 ≢ 0 → key_cmp q e.0 ≢ Less) [
            | true ↦ λ u r less_is. let tie = tied_itself counts.total e.0 in let same = ap (λ x. key_cmp x e.0) (same_key q e.0 u) in cc
            | false ↦ λ u r. not_less e.0 q (behind e es q (below_rest e es h) r)
          ] refl there)
      by false s at later =
          elim (eq_by_cmp key_cmp q e.0) as (λ b. eq_by_cmp key_cmp q e.0 ≡ b → unwrap_or (cond b (Some e.1) (fin.find key_cmp q es)) 0 ≢ 0 → key_cmp q k ≢ Less) [
            | true ↦ λ u r. let clash : true ≡ false = sym t ∙ ap p (same_key q e.0 u) ∙ s in absurd (cc)
            | false ↦ λ u r. later at r
          ] refl there

abbrev passes : ℕ → Content → List ℕ → Bool
passes most c k = nat_lt most (count c k)

pub fits_where_none : (most : ℕ) (c : Content) → first_past most c ≡ None → (k : List ℕ) → count c k ≤ most
fits_where_none most c is k = elim (cases_lt most (count c k)) [
  | inl over ↦ absurd (let no = none_of (passes most c) (entries c) k is (there_is most c k over) in let yes = lt-ltb most (count c k) over in cc)
  | inr fine ↦ fine
]

pub first_is_past : (most : ℕ) (c : Content) (k : List ℕ) → first_past most c ≡ Some k → IsFirstPast most c k
first_is_past most c k is = record {
  passes = ltb-true most (count c k) (found_in (passes most c) (entries c) k is);
  first = λ q over. least_in (passes most c) (entries c) k (fin.entries_sorted c.held) is q (lt-ltb most (count c q) over) (there_is most c q over);
}

-- ---- beside what is within the bound

module _ (most : ℕ) (a b : Content) (fits : (k : List ℕ) → count a k ≤ most) where
  in_part : (k : List ℕ) → most < count (sum a b) k → listed (entries b) k ≢ 0
  in_part k over e = omega (arith, over, count-sum a b k, fits k, count_listed b k, e)

  among : (o : Option (List ℕ)) → find (passes most (sum a b)) (elements b) ≡ o → first_past most (sum a b) ≡ o
  among None is = none_past most (sum a b) (λ k. elim (cases_lt most (count (sum a b) k)) [
    | inl over ↦ absurd (let no = none_of (passes most (sum a b)) (entries b) k is (in_part k over) in let yes = lt-ltb most (count (sum a b) k) over in cc)
    | inr fine ↦ fine
  ])
  among (Some k) is = find_first most (sum a b) k (record {
    passes = ltb-true most (count (sum a b) k) (found_in (passes most (sum a b)) (entries b) k is);
    first = λ q over. least_in (passes most (sum a b)) (entries b) k (fin.entries_sorted b.held) is q (lt-ltb most (count (sum a b) q) over) (in_part q over);
  })

  -- the first past the bound is found among the elements of the part
  pub first_in_part : find (passes most (sum a b)) (elements b) ≡ first_past most (sum a b)
  first_in_part = sym (among (find (passes most (sum a b)) (elements b)) refl)
