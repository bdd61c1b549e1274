use Rattle.std.proofs.Common.{arith}
use Rattle.std.proofs.lemmas.Bool.Decides.{nat_tests}
use Rattle.amount_math.specs.Content.{Contains-of_nat, le-Contains_of_nat}
use Rattle.amount_math.proofs.shape.Shape.is_gte.Goals as goal

pub returns-in-Nat-Nat : goal.returns-in-Nat-Nat
returns-in-Nat-Nat c = rw (c.in-Nat-Nat.is-0, c.in-Nat-Nat.is-1) (λ is. Contains-of_nat _ _ (grind (arith, nat_tests)), λ f. let le = le-Contains_of_nat _ _ f in grind (arith, nat_tests, le))
