-- What isn't conserved is told as plans tell it: the least brand, and of its elements the first in byte order.
use Rattle.std.specs.Prelude.{not}
use Rattle.std.specs.FinMap as fin
use Rattle.std.proofs.Common.{◌≡◌, ◌≢◌, ℕ, pos, ◌≤◌, Bool, true, List, filter, is_some, option_and_then, option_map, IfSome, Option, Some, None, sym, ap, ◌∙◌, arith}
use Rattle.std.proofs.lemmas.Bool.{eq-eqb, false≢true, ne_eqb}
use Rattle.refusals.specs.amount_math.Content.{Content, entries}
use Rattle.rearrange.specs.TestedPlans.{brands_of, elements_of, first_unkept, is_unkept, shares_of, unkept_at, unkept_brand, unkept_element, unkept_of, values_of}
use Rattle.rearrange.specs.Told.{unkept_told}
use Rattle.proposals.specs.declared.plans.Touched.{Touched}
use Rattle.rearrange.specs.Sums.{IsFirstUnkept, count_after, count_before}
use Rattle.rearrange.specs.declared.sums.Unkept as plans
use Rattle.refusals.specs.declared.codes.Unkept.{Unkept}
use Rattle.refusals.specs.Codes.{capped}
use Rattle.value_tests.specs.Totals.{total_of}
use Rattle.rearrange.proofs.TestedConservation.{Named, both_sides, listed_if, named_if}
use Rattle.rearrange.proofs.Leasts.{all_among, first_in, found_passes, least_is, named_among}

module _ (touched : List Touched) where
  abbrev Differ : ℕ → List ℕ → Type 0
  Differ brand k = count_before brand k touched ≢ count_after brand k touched

  unlike : (brand : ℕ) (k : List ℕ) → Differ brand k → is_unkept touched brand k ≡ true
  unlike brand k differ = ap not (ne_eqb (count_before brand k touched) (count_after brand k touched) differ)

  differ_if : (brand : ℕ) (k : List ℕ) → is_unkept touched brand k ≡ true → Differ brand k
  differ_if brand k is same = absurd (false≢true (sym (ap not (eq-eqb (count_before brand k touched) (count_after brand k touched) same)) ∙ is))

  abbrev HasOne : ℕ → Bool
  HasOne brand = is_some (unkept_element touched brand)

  differ_there : (brand : ℕ) → HasOne brand ≡ true → (n : ℕ) → ((k : List ℕ) → Differ brand k → n ≤ brand) → n ≤ brand
  unfolding unkept_element
  differ_there brand is n from = by (unkept_element touched brand) (found_passes (is_unkept touched brand) (elements_of touched brand)) is
    where
      by : (o : Option (List ℕ)) → IfSome o (λ k. is_unkept touched brand k ≡ true) → is_some o ≡ true → n ≤ brand
      by None passes some = absurd (false≢true some)
      by (Some k) passes some = from k (differ_if brand k passes)

  module _ (u : plans.Unkept) (is : IsFirstUnkept touched u) where
    differs : Differ u.brand u.element
    differs same = is.differ (is.before ∙ same ∙ sym is.after)

    element_is : unkept_element touched u.brand ≡ Some u.element
    unfolding unkept_element
    element_is =
        let c : Content = total_of (values_of u.brand (shares_of touched)) in
        first_in (is_unkept touched u.brand) u.element (unlike u.brand u.element differs) (λ q other. is.first q (differ_if u.brand q other))
        (entries c) (fin.entries_sorted c.held) (listed_if touched u.brand u.element differs)

    brand_named : Named u.brand (brands_of touched)
    brand_named = named_if u.brand u.element (shares_of touched) (λ none. differs (omega (arith, both_sides u.brand u.element touched, none)))

    brand_is : unkept_brand touched ≡ Some u.brand
    unfolding unkept_brand
    brand_is = least_is u.brand (filter HasOne (brands_of touched))
        (named_among HasOne u.brand (ap is_some element_is) (brands_of touched) brand_named)
        (all_among HasOne u.brand (λ brand has. differ_there brand has u.brand (λ k other. is.least brand k other)) (brands_of touched))

    abbrev shown_as : ℕ → ℕ → Unkept
    shown_as before after = record { brand = u.brand; element = u.element; before = pos (capped before); after = pos (capped after) }

    pub unkept_first : first_unkept touched ≡ Some (unkept_told u)
    unfolding first_unkept
    unkept_first =
        ap (option_and_then (unkept_of touched)) brand_is
        ∙ ap (option_map (unkept_at touched u.brand)) element_is
        ∙ ap (λ n. Some (shown_as n (count_after u.brand u.element touched))) (sym is.before)
        ∙ ap (λ n. Some (shown_as u.before n)) (sym is.after)
