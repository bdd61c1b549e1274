-- The ends of turns, and what comes between them.
use Rattle.std.specs.Prelude.{◌≡◌, [], ◌∷◌, ◌++◌, drop, map}
use Rattle.escrow.specs.amount_math.declared.Kind.TheVariants.{Set}
use Rattle.registers.specs.Stores.{registers_at_start, registers_now}
use Rattle.registers.specs.vault_model.Lists.{Lists, no_lists, with_new_brand}
use Rattle.registers.specs.turn_records.Deliveries.{Delivery}
use Rattle.registers.specs.world_state.Worlds.{State, no_shares}
use Rattle.host_world.specs.declared.Ledger.{Ledger}

-- no turn is under way: what is now is what the next turn starts with, and nothing has happened
pub record IsBetween (k : Ledger) : Type 0 where
  pub kept : registers_at_start k.registers ≡ registers_now k.registers
  pub quiet : (registers_now k.registers).log ≡ []

-- the delivery in front is gone, nothing has happened yet, and nothing is staged
abbrev pub ended : State → State
ended w = record w {
  staging = map no_shares w.staging;
  waiting = drop 1 w.waiting;
  log = [];
}

-- one more delivery waits, last
abbrev pub arrived : Delivery → State → State
arrived d w = record w { waiting = w.waiting ++ d ∷ [] }

-- a vault in which the brand of invitations was made
abbrev pub first_lists : Lists
first_lists = with_new_brand no_lists Set
