use Rattle.amount_math.specs.Shapes.{value_view}
use Rattle.amount_math.proofs.Shapes.{counted_is, outstanding_of_shape}
use Rattle.amount_math.proofs.holding.Holding.make_room_for.Goals as goal

pub invariant_of-self : goal.invariant_of-self
invariant_of-self c = counted_is (value_view c.self.inside.shape) c.make_room_for.new.self c.make_room_for.ensures.same (outstanding_of_shape c.self.inside.shape c.self.invariant)
