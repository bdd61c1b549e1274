-- Facets after a turn that goes back.
use Rattle.std.proofs.Common.{◌≡◌, ℕ, List, map, take, sym, ap, ◌∙◌}
use Rattle.std.proofs.Math.Nat.{le_refl}
use Rattle.std.proofs.lemmas.List.{take-map, take-take}
use Rattle.actors.specs.Facets.{FacetView, FacetsState, facet_view}
use Rattle.actors.specs.declared.instance_store.facets.Facet.{Facet}

abbrev seen : ℕ → List FacetView → FacetsState
seen k now = record { start = take k now; now = now }

pub facets_cut : (k : ℕ) (xs ys : List Facet) → ys ≡ take k xs → seen k (map facet_view ys) ≡ record { start = take k (map facet_view xs); now = take k (map facet_view xs) }
facets_cut k xs ys e =
    let now : map facet_view ys ≡ take k (map facet_view xs) = ap (map facet_view) e ∙ sym (take-map facet_view k xs) in
    (λ i. seen k (now i)) ∙ (λ i. record { start = take-take k k (map facet_view xs) (le_refl k) i; now = take k (map facet_view xs) })
