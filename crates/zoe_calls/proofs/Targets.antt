-- A target that was made has the number of one.
use Rattle.std.proofs.Common.{ℕ, ◌<◌, length}
use Rattle.rules.specs.world_state.Known.{IsMadeBy}
use Rattle.rules.specs.world_state.Good.{IsGoodWorld}
use Rattle.rules.specs.world_state.Worlds.{State, of_kit}
use Rattle.std.proofs.Common.{arith}

-- a mint's brand was made
pub mint_made : (w : State) → IsGoodWorld w → (n : ℕ) → IsMadeBy w.makers of_kit n → n < length w.brands
mint_made w good n is = omega (arith, is.made, good.brands.made_by)
