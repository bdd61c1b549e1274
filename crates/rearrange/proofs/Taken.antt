-- Shares are tested one after another.
use Rattle.std.proofs.Common.{◌≡◌, List, [], ◌∷◌, true, false, cond, Some, refl}
use Rattle.std.specs.Prelude.{find, not}
use Rattle.rearrange.specs.Slots.{can_take, each_passes, is_covered, shortfall}
use Rattle.proposals.specs.declared.allocations.Share.{Share}
use Rattle.refusals.specs.Outcomes.{◌>>◌, bind, need, none_such}
use Rattle.rearrange.specs.Covered.{takes_share}

pub taken_each : (slots shares : List Share) → each_passes (takes_share slots) shares ≡ can_take slots shares
unfolding can_take bind need none_such
taken_each slots [] = refl
taken_each slots (r ∷ rs) = elim (is_covered slots r) as (λ b. (need b (shortfall slots r) >> each_passes (takes_share slots) rs) ≡ none_such (cond (not b) (Some r) (find (λ q. not (is_covered slots q)) rs)) (shortfall slots)) [
  | true ↦ taken_each slots rs
  | false ↦ refl
]
