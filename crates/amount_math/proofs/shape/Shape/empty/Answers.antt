use Rattle.std.proofs.Common.{ap}
use Rattle.amount_math.specs.declared.Kind.TheVariants.{Nat}
use Rattle.amount_math.specs.Content.{Content, of_nat_zero}
use Rattle.amount_math.proofs.shape.Shape.empty.Goals as goal

pub returns-in-Nat-clause-empty : goal.returns-in-Nat-clause-empty
returns-in-Nat-clause-empty c = rw c.in-Nat.is (ap (λ (x : Content). record { kind = Nat; content = x }) of_nat_zero)
