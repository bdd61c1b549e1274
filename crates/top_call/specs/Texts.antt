-- The rows of a host's next turn.
use Rattle.std.specs.Prelude.{◌≡◌, ◌<◌, List, ℕ, Option, Some, None, Result, Ok, Err, String, string_bytes}
use Rattle.std.specs.declared.alloc.Global.{Global}
use Rattle.host_turns.specs.contract_texts.Reader.{reader}
use Rattle.run_laws.specs.delivery_turns.Hosts.{HostState, step_of}
use Rattle.run_laws.specs.turn_writer.Printing.{CanPrint}
use Rattle.run_laws.specs.turn_writer.ShortRows.{HasShortRows}
use Rattle.host_turns.specs.turn_records.Printed.{printed}
use Rattle.host_turns.specs.turn_records.Turns.{Turn}
use Rattle.host_turns.specs.turn_rows.Form.{IsInForm}
use Rattle.host_turns.specs.turn_rows.Texts.{turn_text}
use Rattle.host_turns.specs.world_state.Rights.{most_turns}
use Rattle.host_turns.specs.HostSteps.{IsAtLimit, NoneWaits}
use Rattle.top_call.specs.declared.run.RunFault.{RunFault}
use Rattle.top_call.specs.declared.run.RunFault.TheVariants.{Failed, NoMemory, TurnLimit}
use Rattle.host_turns.specs.turn_rows.Editions.{written}

-- the turn of the delivery in front, where another may be run, as it is printed; it is in form, where it can be printed,
-- and none of its rows is too long
pub record IsTurnText (old new : HostState) (bytes : List ℕ) : Type 0 where
  pub turn : Turn
  pub step : step_of reader old ≡ Some (record { next = new; turn = turn })
  pub early : old.turns < most_turns
  pub text : bytes ≡ turn_text written old.turns (printed turn)
  pub form : CanPrint turn → IsInForm written (printed turn)
  pub short : HasShortRows written (printed turn)

-- Where none waits, and where the last turn was run, nothing happened; for want of memory a turn may have been made of
-- which there are no rows.
abbrev pub IsNextText : HostState → HostState → Result (Option (String Global)) RunFault → Type 0
IsNextText old new (Ok None) = NoneWaits old new
IsNextText old new (Ok (Some text)) = IsTurnText old new (string_bytes text)
IsNextText old new (Err TurnLimit) = IsAtLimit old new
IsNextText old new (Err NoMemory) = Unit {0}
IsNextText old new (Err Failed) = ⊥
