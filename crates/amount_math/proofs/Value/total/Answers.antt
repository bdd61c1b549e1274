use Rattle.std.proofs.Common.{arith}
use Rattle.amount_math.specs.KindLaws.{counted_value}
use Rattle.amount_math.proofs.Shapes.{value_of_shape}
use Rattle.amount_math.proofs.Value.total.Goals as goal

pub returns-clause-bounded : goal.returns-clause-bounded
returns-clause-bounded c = rw (← c.self.view_is) (omega (arith, counted_value _ _ (value_of_shape c.self.inside.shape c.self.invariant), c.total.ensures))
