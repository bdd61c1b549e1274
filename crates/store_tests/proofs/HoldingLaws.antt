-- What a movement of a number leaves where it goes, and that small ones leave the minted total below 2^128.
use Rattle.std.specs.Prelude.{◌≢◌, ◌<◌, ◌≤◌, ◌^◌, ℕ, Bool, true, false, cond, ◌&&◌}
use Rattle.std.proofs.Common.{arith}
use Rattle.escrow.specs.amount_math.Content.{Content, Contains, Contains-of_nat, Contains-trans, count-sum, of_nat, sum}
use Rattle.escrow.specs.amount_math.Counted.{counted, counted-of_nat}
use Rattle.escrow.specs.amount_math.ValueView.{nat_bound}
use Rattle.escrow.specs.rights_model.declared.Holder.{Holder}
use Rattle.escrow.specs.rights_model.declared.Holder.TheVariants.{Outside}
use Rattle.escrow.specs.rights_model.Supply.{is_outside}
use Rattle.escrow.specs.rights_model.Table.{Table, holds, moved, taken}
use Rattle.escrow.proofs.rights_model.TableLaws.{holds-given}
use Rattle.escrow.specs.Sums.{AreSums}
use Rattle.escrow.specs.Told.{EscrowState, leaving, minted_with, totals_of}
use Rattle.store_tests.specs.Holdings.{HoldsNumber, movement_of}

Contains-added : (a b : Content) → Contains (sum a b) b
Contains-added a b = record { each = λ k. omega (arith, count-sum a b k) }

-- where it goes there is at least so much
pub holds_moved : (e : EscrowState) (from to : Holder) (n : ℕ) (t : Table) → to ≢ Outside → AreSums (moved t (movement_of from to n)) e → HoldsNumber e to n
holds_moved e from to n t inside sums = record {
  table = moved t (movement_of from to n);
  sums = sums;
  has = rw (holds-given (taken t from 1 (of_nat n)) 1 (of_nat n) to inside) (Contains-added (holds (taken t from 1 (of_nat n)) to 1) (of_nat n));
}

pub holds_fewer : (e : EscrowState) (h : Holder) (m n : ℕ) → n ≤ m → HoldsNumber e h m → HoldsNumber e h n
holds_fewer e h m n fewer holding = record { table = holding.table; sums = holding.sums; has = Contains-trans (holds holding.table h 1) (of_nat m) (of_nat n) holding.has (Contains-of_nat m n fewer) }

pub minted_within : (e : EscrowState) (from to : Holder) (n : ℕ) → (totals_of e 1).minted ≤ 1000000 → n ≤ nat_bound → minted_with e (movement_of from to n) < 2 ^ 128
minted_within e from to n few small = let at_most : leaving is_outside (movement_of from to n) 1 ≤ n = by (is_outside from) in omega (arith, few, small, at_most)
  where
    by : (x : Bool) → cond (x && true) (counted (of_nat n)) 0 ≤ n
    by true = omega (arith, counted-of_nat n)
    by false = omega arith
