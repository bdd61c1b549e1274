use Rattle.amount_math.specs.Shapes.{value_view}
use Rattle.amount_math.proofs.Shapes.{is_shape, value_of_shape}
use Rattle.amount_math.proofs.Value.copy.Goals as goal

pub invariant_of-result : goal.invariant_of-result
invariant_of-result c = is_shape (value_view c.self.inside.shape) c.in_ok-shape.shape c.in_ok-shape.ensures (value_of_shape c.self.inside.shape c.self.invariant)
