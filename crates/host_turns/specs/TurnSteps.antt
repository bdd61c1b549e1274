-- A turn that was made, from what lies between turns to what lies there then.
use Rattle.std.specs.Prelude.{◌≡◌, ℕ, ◌+◌, Option, Some, None}
use Rattle.front_turns.specs.contract_texts.Reader.{reader}
use Rattle.run_laws.specs.delivery_turns.Hosts.{step_of}
use Rattle.host_turns.specs.HostStates.{HostParts, IsKept, host_of, world_kept}
use Rattle.front_turns.specs.host_world.declared.Ledger.{Ledger}
use Rattle.front_turns.specs.turn_records.Views.{turn_view}
use Rattle.front_turns.specs.turn_records.declared.turns.TurnRecord.{TurnRecord}

abbrev pub parts : ℕ → Option Ledger → ℕ → HostParts
parts meter k turns = record { meter = meter; world = k; turns = turns }

-- it is the step of the host, after which the host is kept
pub record IsMade (meter turns : ℕ) (old new : Option Ledger) (t : TurnRecord) : Type 0 where
  pub step : step_of reader (host_of (parts meter old turns))
      ≡ Some (record { next = host_of (parts meter new (turns + 1)); turn = turn_view t })
  pub kept : IsKept (parts meter new (turns + 1))

-- none was made: all is as before
pub record IsAsBefore (meter turns : ℕ) (old new : Option Ledger) : Type 0 where
  pub same : world_kept new ≡ world_kept old
  pub kept : IsKept (parts meter new turns)

abbrev pub IsTurned : ℕ → ℕ → Option Ledger → Option Ledger → Option TurnRecord → Type 0
IsTurned meter turns old new (Some t) = IsMade meter turns old new t
IsTurned meter turns old new None = IsAsBefore meter turns old new
