-- What the tests of escrow carry from one movement to the next.
use Rattle.std.specs.Prelude.{ℕ}
use Rattle.escrow.specs.amount_math.Content.{Contains, of_nat}
use Rattle.escrow.specs.amount_math.declared.Kind.TheVariants.{Nat}
use Rattle.escrow.specs.rights_model.declared.Holder.{Holder}
use Rattle.escrow.specs.rights_model.declared.Movement.{Movement}
use Rattle.escrow.specs.rights_model.Table.{CanMove, Table, holds, movement}
use Rattle.escrow.specs.Told.{EscrowState}
use Rattle.escrow.specs.Sums.{AreSums}

-- a number of brand 1
abbrev pub movement_of : Holder → Holder → ℕ → Movement
movement_of from to n = movement 1 from to (record { kind = Nat; content = of_nat n })

-- a table that was told, on which it is defined
pub record CanTellNext (e : EscrowState) (m : Movement) : Type 0 where
  pub table : Table
  pub sums : AreSums table e
  pub defined : CanMove table m

-- a table that was told, on which the holder has at least n of brand 1
pub record HoldsNumber (e : EscrowState) (h : Holder) (n : ℕ) : Type 0 where
  pub table : Table
  pub sums : AreSums table e
  pub has : Contains (holds table h 1) (of_nat n)
