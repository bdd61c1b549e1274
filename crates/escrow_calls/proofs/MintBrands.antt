-- The number of a mint's brand: it has 16 bits, the brand was made, and it has a supply.
use Rattle.std.proofs.Common.{ℕ, ◌<◌, length, arith}
use Rattle.rules.specs.world_state.Good.{IsGoodWorld}
use Rattle.rules.specs.world_state.Worlds.{State}

pub few_makers : (w : State) (b : ℕ) → IsGoodWorld w → b < length w.makers → b < 65535
few_makers w b good made = omega (arith, good.brands.few, good.brands.made_by, made)

pub maker_brand : (w : State) (b : ℕ) → IsGoodWorld w → b < length w.makers → b < length w.brands
maker_brand w b good made = omega (arith, good.brands.made_by, made)

pub maker_supply : (w : State) (b : ℕ) → IsGoodWorld w → b < length w.makers → b < length w.rights.out
maker_supply w b good made = omega (arith, good.brands.supplies, good.brands.made_by, made)
