use Rattle.std.proofs.Common.{sym}
use Rattle.amount_math.specs.Counted.{counted-of_nat}
use Rattle.amount_math.proofs.shape.Shape.total.Goals as goal

pub returns-in-Nat : goal.returns-in-Nat
returns-in-Nat c = rw c.in-Nat.is (sym (counted-of_nat c.in-Nat.number))
