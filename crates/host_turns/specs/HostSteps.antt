-- What a host's calls make of it.
use Rattle.std.specs.Prelude.{◌≡◌, ◌<◌, ◌≤◌, ℕ, List, Option, Some, None, Result, Ok, Err}
use Rattle.std.specs.declared.alloc.AllocError.{AllocError}
use Rattle.front_turns.specs.contract_texts.Reader.{reader}
use Rattle.run_laws.specs.delivery_turns.Hosts.{HostState, step_of, with_line}
use Rattle.run_laws.specs.message_lines.Meanings.{Meaning, blank, delivered, meaning_of, run}
use Rattle.front_turns.specs.turn_records.Views.{turn_view}
use Rattle.front_turns.specs.turn_records.declared.turns.TurnRecord.{TurnRecord}
use Rattle.front_turns.specs.world_state.Rights.{most_turns}
use Rattle.run_laws.specs.Runs.{left_in}
use Rattle.host_turns.specs.declared.steps.StepFault.{StepFault}
use Rattle.host_turns.specs.declared.steps.StepFault.TheVariants as faults
use Rattle.host_turns.specs.declared.steps.Submitted.{Submitted}
use Rattle.host_turns.specs.declared.steps.Submitted.TheVariants as submitted

-- ---- a step

-- the turn of the delivery in front, where another may be run
pub record IsTurn (old new : HostState) (t : TurnRecord) : Type 0 where
  pub step : step_of reader old ≡ Some (record { next = new; turn = turn_view t })
  pub early : old.turns < most_turns

pub record NoneWaits (old new : HostState) : Type 0 where
  pub none : step_of reader old ≡ None
  pub same : new ≡ old

-- the last turn was run, and a delivery is left
pub record IsAtLimit (old new : HostState) : Type 0 where
  pub turns : most_turns ≤ old.turns
  pub left : 1 ≤ left_in old
  pub same : new ≡ old

-- A step is the turn of the delivery in front, where it may be run; where none waits, where the last turn was run,
-- and for want of memory, nothing happened.
abbrev pub IsStep : HostState → HostState → Result (Option TurnRecord) StepFault → Type 0
IsStep old new (Ok None) = NoneWaits old new
IsStep old new (Ok (Some t)) = IsTurn old new t
IsStep old new (Err faults.TurnLimit) = IsAtLimit old new
IsStep old new (Err faults.NoMemory) = new ≡ old

-- ---- a line

-- the line is blank, or runs so many deliveries: nothing is changed
pub record ChangesNothing (old new : HostState) (line : List ℕ) (m : Meaning) : Type 0 where
  pub meaning : meaning_of line ≡ m
  pub same : new ≡ old

-- its delivery waits
abbrev pub Waits : HostState → HostState → Meaning → Type 0
Waits old new blank = ⊥
Waits old new (delivered d) = new ≡ with_line d old
Waits old new (run n) = ⊥

-- A line that is blank or a run line changes nothing, of any other the delivery waits; for want of memory nothing
-- happened.
abbrev pub IsSubmitted : HostState → HostState → List ℕ → Result Submitted AllocError → Type 0
IsSubmitted old new line (Ok submitted.Blank) = ChangesNothing old new line blank
IsSubmitted old new line (Ok (submitted.Run n)) = ChangesNothing old new line (run n)
IsSubmitted old new line (Ok submitted.Queued) = Waits old new (meaning_of line)
IsSubmitted old new line (Err e) = new ≡ old
