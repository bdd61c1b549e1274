-- A call that isn't answered yet, and how it is told.
use Rattle.std.specs.Prelude.{◌≡◌}
use Rattle.delivery_laws.specs.delivery_turns.HostCalls.{told_call}
use Rattle.jessie_machine.specs.jessie_semantics.Play.{Call}
use Rattle.refusals.specs.host_data.View.{trees}
use Rattle.world_effects.specs.turn_records.Views.{how_view}
use Rattle.world_effects.specs.turn_records.Events as told
use Rattle.contract_powers.specs.declared.host_calls.told_calls.Told.{Told}

abbrev pub told_view : Told → told.Answer → told.Call
told_view c answer = record {
  how = how_view c.how;
  on = c.on;
  method = c.method;
  arguments = trees c.arguments.items;
  answer = answer;
}

-- it is how the call is told, whatever is answered
pub record IsTold (c : Call) (t : Told) : Type 0 where
  pub each : (answer : told.Answer) → told_view t answer ≡ told_call c answer
