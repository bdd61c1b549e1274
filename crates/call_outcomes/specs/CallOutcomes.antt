-- What the code of a rule has to meet: it plans what the rule gives.
use Rattle.std.specs.Prelude.{◌≡◌, List, Result, Ok, Err}
use Rattle.refusals.specs.host_data.Tree.{Tree}
use Rattle.refusals.specs.host_data.View.{tree}
use Rattle.refusals.specs.host_data.declared.data.Data.{Data}
use Rattle.refusals.specs.Outcomes.{Fails, Gives}
use Rattle.refusals.specs.declared.codes.Refusal.{Refusal}
use Rattle.refusals.specs.declared.stops.Stop.{Stop}
use Rattle.registers.specs.world_state.Worlds.{Effect}
use Rattle.rules.specs.Outcomes.{Outcome}
use Rattle.call_outcomes.specs.Lists.{IsEachShaped, effects_view}
use Rattle.call_outcomes.specs.declared.outcomes.CallOutcome.{CallOutcome}

-- the answer, and the effects in their order
abbrev pub outcome_view : CallOutcome → Tree × List Effect
outcome_view p = (tree p.answer, effects_view p.effects)

-- the row gives just the outcome, whose movements are of the shape that their way asks for, or the refusal; where
-- memory ran out nothing is said
abbrev pub GivesOutcome : Outcome → Result CallOutcome Stop → Type 0
GivesOutcome row (Ok p) = (row ≡ Ok (outcome_view p)) × IsEachShaped p.effects
GivesOutcome row (Err stop) = Fails stop row

-- what a row that only reads comes to, and that the code reads it
abbrev pub ReadOutcome : Type 0
ReadOutcome = Result Tree Refusal

abbrev pub Reads : ReadOutcome → Result Data Stop → Type 0
Reads row result = Gives tree result row
