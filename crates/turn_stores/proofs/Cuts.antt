-- Invitations after a turn that goes back.
use Rattle.std.proofs.Common.{◌≡◌, ℕ, List, map, take, sym, ap, ◌∙◌}
use Rattle.std.proofs.Math.Nat.{le_refl}
use Rattle.std.proofs.lemmas.List.{take-map, take-take}
use Rattle.turn_stores.specs.Details.{DetailsView, details_view}
use Rattle.turn_stores.specs.InvitationTurns.{seen}
use Rattle.turn_stores.specs.declared.invitations.Details.{Details}

pub seen-cut : (k : ℕ) (xs ys : List Details) → ys ≡ take k xs → seen k (map details_view ys) ≡ record { start = take k (map details_view xs); now = take k (map details_view xs) }
seen-cut k xs ys e =
    let now : map details_view ys ≡ take k (map details_view xs) = ap (λ (zs : List Details). map details_view zs) e ∙ sym (take-map details_view k xs) in
    ap (λ (zs : List DetailsView). record { start = take k zs; now = zs }) now
    ∙ ap (λ (zs : List DetailsView). record { start = zs; now = take k (map details_view xs) }) (take-take k k (map details_view xs) (le_refl k))
