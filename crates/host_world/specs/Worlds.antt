-- What the stores of a turn are: a state of the world.
use Rattle.std.specs.Prelude.{◌≡◌, []}
use Rattle.draft_reads.specs.Views.{CanGoBack, rights_in, seats_in, staged_from, staging_in}
use Rattle.registers.specs.RegisterStates.{RegisterState}
use Rattle.registers.specs.Stores.{registers_at_start, registers_now}
use Rattle.registers.specs.vault_model.Lists.{Lists}
use Rattle.draft_reads.specs.world_laws.Views.{rights_of, seats_of}
use Rattle.host_world.specs.Parts.{state_of}
use Rattle.registers.specs.world_state.Worlds.{State, behind}
use Rattle.host_world.specs.declared.Ledger.{Ledger}
use Rattle.host_world.specs.declared.World.{World}

-- all that a turn works on: its own delivery waits in front
abbrev pub world_now : World → State
world_now w =
    state_of (rights_in w.draft) (seats_in w.draft) (staging_in w.draft) (registers_now w.registers)

-- the world behind the turn's own delivery, of which effects and rows speak
abbrev pub world_of : World → State
world_of w = behind (world_now w)

-- a vault in which nothing is staged, with stores that touch no rights
abbrev pub vault_state : Lists → RegisterState → State
vault_state s p = state_of (rights_of s) (seats_of s) (staged_from 0 s.seats []) p

-- the world at the turn's start, and between turns
abbrev pub world_at_start : World → State
world_at_start w = vault_state w.draft.kept (registers_at_start w.registers)

abbrev pub kept_state : Ledger → State
kept_state k = vault_state k.vault (registers_now k.registers)

-- The turn's start is as it was, and the turn can be undone; nothing more was told.
pub record IsUndoable (old new : World) : Type 0 where
  pub rights : CanGoBack old.draft new.draft
  pub registers : registers_at_start new.registers ≡ registers_at_start old.registers
  pub sums : new.sums ≡ old.sums
