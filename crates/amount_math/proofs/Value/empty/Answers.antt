use Rattle.amount_math.specs.KindLaws.{nothing_is_value}
use Rattle.amount_math.proofs.Shapes.{is_shape}
use Rattle.amount_math.proofs.Value.empty.Goals as goal

pub invariant_of-result : goal.invariant_of-result
invariant_of-result c = is_shape _ c.empty.result c.empty.ensures.empty (nothing_is_value c.args.kind)
