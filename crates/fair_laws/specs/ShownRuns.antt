-- When what the function of an instance does is shown.
use Rattle.delivery_laws.specs.delivery_turns.Functions.{Run, ended, ran_out}
use Rattle.fair_laws.specs.ShownEffects.{AreShown}
use Rattle.fair_rows.specs.ExitCauses.{Owners}
use Rattle.fair_rows.specs.turn_rows.Turns.{Turn}
use Rattle.delivery_laws.specs.world_state.Worlds.{State}

-- each effect is, by the rows of the turn so far; where the meter was spent there is none
abbrev pub IsShownRun : Owners → Turn → State → Run → Type 0
IsShownRun owners t w (ended e values es) = AreShown owners t w es
IsShownRun owners t w ran_out = Unit {0}
