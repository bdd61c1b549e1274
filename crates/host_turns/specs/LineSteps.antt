-- What a line's meaning makes of what a host keeps.
use Rattle.std.specs.Prelude.{◌≡◌, Option, Result, Ok, Err}
use Rattle.std.specs.declared.alloc.AllocError.{AllocError}
use Rattle.host_turns.specs.HostStates.{IsArrived, world_kept}
use Rattle.front_turns.specs.host_world.declared.Ledger.{Ledger}
use Rattle.host_turns.specs.declared.steps.Submitted.{Submitted}
use Rattle.host_turns.specs.declared.steps.Submitted.TheVariants as submitted
use Rattle.run_laws.specs.message_lines.Meanings.{Meaning, blank, delivered, run}

-- the meaning is nothing, or a run, and all is as before
pub record IsNoDelivery (old new : Option Ledger) (m n : Meaning) : Type 0 where
  pub meaning : m ≡ n
  pub same : world_kept new ≡ world_kept old

abbrev pub Comes : Option Ledger → Option Ledger → Meaning → Type 0
Comes old new blank = ⊥
Comes old new (delivered d) = IsArrived d old new
Comes old new (run n) = ⊥

abbrev pub IsTaken : Option Ledger → Option Ledger → Meaning → Result Submitted AllocError → Type 0
IsTaken old new m (Ok submitted.Blank) = IsNoDelivery old new m blank
IsTaken old new m (Ok (submitted.Run n)) = IsNoDelivery old new m (run n)
IsTaken old new m (Ok submitted.Queued) = Comes old new m
IsTaken old new m (Err e) = world_kept new ≡ world_kept old
