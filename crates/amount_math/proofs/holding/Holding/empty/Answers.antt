use Rattle.amount_math.specs.KindLaws.{nothing_is_value, value_is_outstanding}
use Rattle.amount_math.proofs.Shapes.{counted_is}
use Rattle.amount_math.proofs.holding.Holding.empty.Goals as goal

pub invariant_of-result : goal.invariant_of-result
invariant_of-result c = counted_is _ c.empty-shape.result c.empty-shape.ensures.empty (value_is_outstanding c.args.kind _ (nothing_is_value c.args.kind))

pub returns : goal.returns
returns c = λ i. record { value = c.empty-shape.ensures.empty i; room = c.empty-shape.ensures.room i }
