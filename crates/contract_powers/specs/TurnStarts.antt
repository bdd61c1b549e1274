-- What a turn goes back to, if it is undone.
use Rattle.std.specs.Prelude.{◌≡◌}
use Rattle.world_effects.specs.escrow.Told.{EscrowState, nothing_told}
use Rattle.world_effects.specs.host_world.declared.World.{World}
use Rattle.world_effects.specs.registers.RegisterStates.{RegisterState, new_registers}
use Rattle.world_effects.specs.registers.Stores.{registers_at_start}
use Rattle.delivery_laws.specs.vault_model.Lists.{Lists, no_lists}
use Rattle.world_effects.specs.vault.Drafts.{HandGoes}

-- the rights, the stores that touch none, and what was told up to the last turn
pub record Start : Type 0 where
  pub kept : Lists
  pub registers : RegisterState
  pub sums : EscrowState

abbrev pub start_of : World → Start
start_of w = record { kept = w.draft.kept; registers = registers_at_start w.registers; sums = w.sums }

abbrev pub no_start : Start
no_start = record { kept = no_lists; registers = new_registers; sums = nothing_told }

-- the turn can be undone, and goes back to that
pub record GoesBackTo (start : Start) (w : World) : Type 0 where
  pub same : start_of w ≡ start
  pub goes : HandGoes w.draft
