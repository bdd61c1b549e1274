-- The sums from scratch over a table, which what is kept running equals.
use Rattle.std.specs.Prelude.{◌≡◌, ◌+◌, ◌<◌, ◌≤◌, ◌^◌, ℕ, List, length}
use Rattle.rights_model.specs.amount_math.Content.{nothing}
use Rattle.rights_model.specs.declared.Holder.TheVariants.{Slot}
use Rattle.rights_model.specs.declared.Movement.{Movement}
use Rattle.rights_model.specs.declared.Sum.{Sum}
use Rattle.rights_model.specs.Table.{CanMove, Table, holds}
use Rattle.rights_model.specs.Supply.{is_inside}
use Rattle.rights_model.specs.Totals.{held_over, is_payment, is_purse, is_slot}
use Rattle.escrow.specs.Told.{EscrowState, IsTold, is_slot_of, minted_with, share_of, totals_of}

-- no slot of the seat holds anything
abbrev pub HasNoSlots : Table → ℕ → Type 0
HasNoSlots t seat = (keyword : List ℕ) (b : ℕ) → holds t (Slot seat keyword) b ≡ nothing

-- a brand's sum is of what all purses hold, all payments and all slots
pub record AreHeld (t : Table) (b : ℕ) (s : Sum) : Type 0 where
  pub brand : s.brand ≡ b
  pub purses : s.purses ≡ held_over is_purse t b
  pub payments : s.payments ≡ held_over is_payment t b
  pub slots : s.slots ≡ held_over is_slot t b

-- for each brand: what all purses hold, all payments and all slots; for each instance and brand: what the slots of its seats hold. All that came from Outside is held inside or went back there. No seat holds anything before it is told
pub record AreSums (t : Table) (e : EscrowState) : Type 0 where
  pub purses : (b : ℕ) → (totals_of e b).purses ≡ held_over is_purse t b
  pub payments : (b : ℕ) → (totals_of e b).payments ≡ held_over is_payment t b
  pub slots : (b : ℕ) → (totals_of e b).slots ≡ held_over is_slot t b
  pub shares : (i b : ℕ) → share_of e i b ≡ held_over (is_slot_of e.instances i) t b
  pub whole : (b : ℕ) → (totals_of e b).minted ≡ (totals_of e b).burned + held_over is_inside t b
  pub seats : (seat : ℕ) → length e.instances ≤ seat → HasNoSlots t seat

-- before it was told the movement was defined on the table that was told, and what was told from
-- Outside of its brand stayed below 2^128
pub record WasTold (e : EscrowState) (m : Movement) : Type 0 where
  pub before : EscrowState
  pub table : Table
  pub sums : AreSums table before
  pub defined : CanMove table m
  pub minted : minted_with before m < 2 ^ 128
  pub told : IsTold before e m
