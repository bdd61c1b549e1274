-- What is conserved: no brand's element is found that isn't, exactly where seats have as many of each after as
-- before.
use Rattle.std.specs.Prelude.{not, unwrap_or}
use Rattle.std.specs.FinMap as fin
use Rattle.std.specs.List.{find}
use Rattle.std.specs.Ordering.{eq_by_cmp}
use Rattle.std.proofs.Common.{◌≡◌, ◌≢◌, ◌⊎◌, ℕ, ◌+◌, min, ◌==◌, Bool, true, false, cond, List, [], ◌∷◌, ◌++◌, filter, map, is_some, option_and_then, option_map, IfSome, Option, Some, None, if◌then◌else◌, inl, inr, refl, sym, ap, subst, ◌∙◌, arith}
use Rattle.std.proofs.lemmas.Bool.{cases_lt, eq-eqb, eqb-false, eqb-true, false≢true}
use Rattle.std.proofs.lemmas.List.Sums.{sum_by-append, sum_by-cons}
use Rattle.refusals.specs.amount_math.Content.{count, count-nothing, count-sum, count_listed, entries, key_cmp, listed}
use Rattle.refusals.specs.amount_math.Entries.{Entries}
use Rattle.refusals.proofs.amount_math.Listed.{same_key}
use Rattle.rearrange.specs.TestedPlans.{brands_of, elements_of, first_unkept, is_unkept, shares_of, unkept_at, unkept_brand, unkept_element, unkept_of, values_of}
use Rattle.proposals.specs.Leasts.{least, least_of}
use Rattle.proposals.specs.declared.allocations.Share.{Share}
use Rattle.proposals.specs.declared.plans.Touched.{Touched}
use Rattle.rearrange.specs.Sums.{AreConserved, count_after, count_before, share_count, shares_count}
use Rattle.value_tests.specs.Totals.{total_of}

-- ---- what is found in lists

module _ (p : List ℕ → Bool) where
  here : (b : Bool) (k : List ℕ) (rest : Option (List ℕ)) → cond b (Some k) rest ≡ None → (b ≡ false) × (rest ≡ None)
  here true k rest is = absurd (cc)
  here false k rest is = (refl, is)

  none_of : (es : Entries) (k : List ℕ) → find p (map (λ e. e.0) es) ≡ None → listed es k ≢ 0 → p k ≡ false
  none_of [] k is there = absurd (there refl)
  none_of (e ∷ es) k is there =
      let both = here (p e.0) e.0 (find p (map (λ (f : List ℕ × ℕ). f.0) es)) is in
      elim (eq_by_cmp key_cmp k e.0) as (λ b. eq_by_cmp key_cmp k e.0 ≡ b → unwrap_or (cond b (Some e.1) (fin.find key_cmp k es)) 0 ≢ 0 → p k ≡ false) [
        | true ↦ λ t r. ap p (same_key k e.0 t) ∙ both.0
        | false ↦ λ t r. none_of es k both.1 r
      ] refl there

module _ {A : Type 0} (p : A → Bool) (fails : (x : A) → p x ≡ false) where
  find_none : (xs : List A) → find p xs ≡ None
  find_none [] = refl
  find_none (x ∷ xs) = ap (λ b. cond b (Some x) (find p xs)) (fails x) ∙ find_none xs

  filter_none : (xs : List A) → filter p xs ≡ []
  filter_none [] = refl
  filter_none (x ∷ xs) = ap (λ b. cond b (x ∷ filter p xs) (filter p xs)) (fails x) ∙ filter_none xs

not_some : {A : Type 0} (o : Option A) → is_some o ≡ false → o ≡ None
not_some None is = refl
not_some (Some x) is = absurd (cc)

-- ---- the least of numbers that pass

some_least : (m : ℕ) (o : Option ℕ) → least_of (Some m) o ≡ None → ⊥
some_least m None is = cc
some_least m (Some n) is = cc

abbrev pub Named : ℕ → List ℕ → Type 0
Named n [] = ⊥
Named n (m ∷ ms) = (m ≡ n) ⊎ Named n ms

module _ (p : ℕ → Bool) where
  none_least : (ns : List ℕ) → least (filter p ns) ≡ None → (n : ℕ) → Named n ns → p n ≡ false
  none_least [] is n named = absurd named
  none_least (m ∷ ms) is n named = by (p m) refl is named (none_least ms)
    where
      by : (b : Bool) → p m ≡ b → least (cond b (m ∷ filter p ms) (filter p ms)) ≡ None → Named n (m ∷ ms) → (least (filter p ms) ≡ None → (q : ℕ) → Named q ms → p q ≡ false) → p n ≡ false
      by true passes none at later = absurd (some_least m (least (filter p ms)) none)
      by false fails none (inl same) later = subst (λ x. p x ≡ false) same fails
      by false fails none (inr rest) later = later none n rest

  lesser_passes : (m n : ℕ) → p m ≡ true → p n ≡ true → p (min m n) ≡ true
  lesser_passes m n one other = elim (cases_lt m n) [
    | inl less ↦ let same : m ≡ min m n = omega (arith, less) in subst (λ x. p x ≡ true) same one
    | inr upto ↦ let same : n ≡ min m n = omega (arith, upto) in subst (λ x. p x ≡ true) same other
  ]

  of_two : (m : ℕ) (o : Option ℕ) → p m ≡ true → IfSome o (λ n. p n ≡ true) → IfSome (least_of (Some m) o) (λ n. p n ≡ true)
  of_two m None passes later = passes
  of_two m (Some n) passes later = lesser_passes m n passes later

  least_passes : (ns : List ℕ) → IfSome (least (filter p ns)) (λ n. p n ≡ true)
  least_passes [] = tt
  least_passes (m ∷ ms) = by (p m) refl (least_passes ms)
    where
      by : (b : Bool) → p m ≡ b → IfSome (least (filter p ms)) (λ n. p n ≡ true) → IfSome (least (cond b (m ∷ filter p ms) (filter p ms))) (λ n. p n ≡ true)
      by true passes later = of_two m (least (filter p ms)) passes later
      by false fails later = later

-- ---- counts

counted : (brand : ℕ) (k : List ℕ) (shares : List Share) → count (total_of (values_of brand shares)) k ≡ shares_count brand k shares
counted brand k [] = count-nothing k
counted brand k (r ∷ rs) = by (r.amount.brand == brand) (counted brand k rs) ∙ sym (sum_by-cons (share_count brand k) r rs)
  where
    by : (t : Bool) → count (total_of (values_of brand rs)) k ≡ shares_count brand k rs → count (total_of (if t then r.amount.value ∷ values_of brand rs else values_of brand rs)) k ≡ (if t then count r.amount.value.content k else 0) + shares_count brand k rs
    by true later = count-sum r.amount.value.content (total_of (values_of brand rs)) k ∙ ap (λ n. count r.amount.value.content k + n) later
    by false later = omega (arith, later)

pub both_sides : (brand : ℕ) (k : List ℕ) (touched : List Touched) → shares_count brand k (shares_of touched) ≡ count_before brand k touched + count_after brand k touched
both_sides brand k [] = refl
both_sides brand k (t ∷ ts) = omega (
  arith,
  sum_by-append (share_count brand k) (t.before ++ t.after) (shares_of ts),
  sum_by-append (share_count brand k) t.before t.after,
  both_sides brand k ts,
  sum_by-cons (λ (u : Touched). shares_count brand k u.before) t ts,
  sum_by-cons (λ (u : Touched). shares_count brand k u.after) t ts,
)

pub named_if : (brand : ℕ) (k : List ℕ) (shares : List Share) → shares_count brand k shares ≢ 0 → Named brand (map (λ r. r.amount.brand) shares)
named_if brand k [] there = absurd (there refl)
named_if brand k (r ∷ rs) there = by (r.amount.brand == brand) refl (named_if brand k rs)
  where
    by : (b : Bool) → (r.amount.brand == brand) ≡ b → (shares_count brand k rs ≢ 0 → Named brand (map (λ q. q.amount.brand) rs)) → Named brand (map (λ q. q.amount.brand) (r ∷ rs))
    by true same later = inl (eqb-true r.amount.brand brand same)
    by false other later = inr (later (λ none. there (omega (
      arith,
      sum_by-cons (share_count brand k) r rs,
      ap (λ b. if b then count r.amount.value.content k else 0) other,
      none,
    ))))

-- ---- what isn't kept is found

pub listed_if : (touched : List Touched) (brand : ℕ) (k : List ℕ) → count_before brand k touched ≢ count_after brand k touched → listed (entries (total_of (values_of brand (shares_of touched)))) k ≢ 0
listed_if touched brand k differ none = differ (omega (
  arith,
  count_listed (total_of (values_of brand (shares_of touched))) k,
  none,
  counted brand k (shares_of touched),
  both_sides brand k touched,
))

kept_where_none : (touched : List Touched) (brand : ℕ) → unkept_element touched brand ≡ None → (k : List ℕ) → count_before brand k touched ≡ count_after brand k touched
unfolding unkept_element
kept_where_none touched brand is k = by (count_before brand k touched == count_after brand k touched) refl (none_of (is_unkept touched brand) (entries (total_of (values_of brand (shares_of touched)))) k is)
  where
    by : (b : Bool) → (count_before brand k touched == count_after brand k touched) ≡ b → (listed (entries (total_of (values_of brand (shares_of touched)))) k ≢ 0 → is_unkept touched brand k ≡ false) → count_before brand k touched ≡ count_after brand k touched
    by true same kept = eqb-true _ _ same
    by false differ kept = absurd (false≢true (sym (kept (listed_if touched brand k (eqb-false _ _ differ))) ∙ ap not differ))

all_kept : (touched : List Touched) → unkept_brand touched ≡ None → (brand : ℕ) (k : List ℕ) → count_before brand k touched ≡ count_after brand k touched
unfolding unkept_brand
all_kept touched is brand k = by (count_before brand k touched == count_after brand k touched) refl
  where
    by : (b : Bool) → (count_before brand k touched == count_after brand k touched) ≡ b → count_before brand k touched ≡ count_after brand k touched
    by true same = eqb-true _ _ same
    by false differ =
        let named = named_if brand k (shares_of touched) (λ none. eqb-false _ _ differ (omega (arith, both_sides brand k touched, none))) in
        let none_has = none_least (λ b. is_some (unkept_element touched b)) (brands_of touched) is brand named in
        kept_where_none touched brand (not_some (unkept_element touched brand) none_has) k

brand_has_one : (touched : List Touched) → IfSome (unkept_brand touched) (λ b. is_some (unkept_element touched b) ≡ true)
unfolding unkept_brand
brand_has_one touched = least_passes (λ b. is_some (unkept_element touched b)) (brands_of touched)

no_brand_if : (touched : List Touched) → first_unkept touched ≡ None → unkept_brand touched ≡ None
unfolding first_unkept
no_brand_if touched is = by (unkept_brand touched) (brand_has_one touched) is
  where
    mapped : (b : ℕ) (o : Option (List ℕ)) → is_some o ≡ true → option_map (unkept_at touched b) o ≡ None → ⊥
    mapped b None some none = cc
    mapped b (Some k) some none = cc

    by : (o : Option ℕ) → IfSome o (λ b. is_some (unkept_element touched b) ≡ true) → option_and_then (unkept_of touched) o ≡ None → o ≡ None
    by None has none = refl
    by (Some b) has none = absurd (mapped b (unkept_element touched b) has none)

pub conserved_if : (touched : List Touched) → first_unkept touched ≡ None → AreConserved touched
conserved_if touched is = record { each = λ brand k. all_kept touched (no_brand_if touched is) brand k }

-- ---- and nothing else is

element_none : (touched : List Touched) → AreConserved touched → (brand : ℕ) → unkept_element touched brand ≡ None
unfolding unkept_element
element_none touched kept brand =
    find_none (is_unkept touched brand) (λ k. ap not (eq-eqb (count_before brand k touched) (count_after brand k touched) (kept.each brand k))) (elements_of touched brand)

brand_none : (touched : List Touched) → AreConserved touched → unkept_brand touched ≡ None
unfolding unkept_brand
brand_none touched kept =
    ap least (filter_none (λ b. is_some (unkept_element touched b)) (λ b. ap is_some (element_none touched kept b)) (brands_of touched))

pub if_conserved : (touched : List Touched) → AreConserved touched → first_unkept touched ≡ None
unfolding first_unkept
if_conserved touched kept = ap (option_and_then (unkept_of touched)) (brand_none touched kept)
