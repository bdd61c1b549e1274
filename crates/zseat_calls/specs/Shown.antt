-- An amount that is asked for by its brand.
use Rattle.std.specs.Prelude.{ℕ, ◌==◌, Option, Result, Ok}
use Rattle.refusals.specs.amount_math.declared.Amount.{Amount}
use Rattle.host_data.specs.Values.{amount_tree}
use Rattle.rules.specs.Zseat.{amount_or_none}
use Rattle.host_data.specs.Tree.{Tree}
use Rattle.refusals.specs.Codes.{wrong_brand}
use Rattle.refusals.specs.Outcomes.{◌>>◌, need}
use Rattle.refusals.specs.declared.codes.Refusal.{Refusal}
use Rattle.rules.specs.world_state.Worlds.{State}

-- what is held, or nothing of the brand; it has to be of the brand
unfoldable pub amount_shown : State → ℕ → Option Amount → Result Tree Refusal
amount_shown w brand held =
    need ((amount_or_none w brand held).brand == brand) (wrong_brand brand)
    >> Ok (amount_tree (amount_or_none w brand held))
