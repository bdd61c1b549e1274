-- A table made of a function of the places, over a list of them, as a store that answers what each place has gives one.
use Rattle.std.specs.Prelude.{◌≡◌, ◌⊎◌, List, [], ◌∷◌}
use Rattle.std.proofs.Common.{inl, inr, sym, ◌∙◌, ap}
use Rattle.amount_math.specs.Sparse.{at, put, at-put_same, at-put_other, at-empty, same_or_other}
use Rattle.amount_math.specs.Content.{Content, nothing}
use Rattle.rights_model.specs.Place.{Place}
use Rattle.rights_model.specs.Table.{Table, holdings, no_holdings}

abbrev pub tabulated : (Place → Content) → List Place → Table
tabulated f [] = no_holdings
tabulated f (p ∷ ps) = put holdings (tabulated f ps) p (f p)

-- the place has nothing, or is in the list
abbrev pub IsCovered : (Place → Content) → List Place → Place → Type 0
IsCovered f [] q = f q ≡ nothing
IsCovered f (p ∷ ps) q = (q ≡ p) ⊎ IsCovered f ps q

pub at-tabulated : (f : Place → Content) (ps : List Place) (q : Place) → IsCovered f ps q → at holdings (tabulated f ps) q ≡ f q
at-tabulated f [] q none = at-empty holdings q ∙ sym none
at-tabulated f (p ∷ ps) q covered = elim (same_or_other holdings q p) [
  | inl is ↦ ap (at holdings (tabulated f (p ∷ ps))) is ∙ at-put_same holdings (tabulated f ps) p (f p) ∙ ap f (sym is)
  | inr apart ↦ at-put_other holdings (tabulated f ps) p (f p) q apart ∙ elim covered [
    | inl is ↦ absurd (apart is)
    | inr rest ↦ at-tabulated f ps q rest
  ]
]
