use Rattle.std.proofs.Common.{refl}
use Rattle.amount_math.proofs.Shapes.{nothing_is_shape, shape_sum, value_sum}
use Rattle.amount_math.proofs.shape.Shape.put.Goals as goal

pub returns-in-Ok-clause-value : goal.returns-in-Ok-clause-value
returns-in-Ok-clause-value c = value_sum c.args.self.now c.args.more.now c.add.new.self c.requires.kinds c.in-Ok.ensures.ok (c.in_ok-check_sum.ensures.fits refl) c.requires.held c.requires.more (c.in_ok-check_sum.ensures.few refl)

pub returns-in-Ok-clause-shapes : goal.returns-in-Ok-clause-shapes
returns-in-Ok-clause-shapes c = (
  shape_sum c.args.self.now c.args.more.now c.add.new.self c.requires.kinds c.in-Ok.ensures.ok (c.in_ok-check_sum.ensures.fits refl) c.requires.held c.requires.more (c.in_ok-check_sum.ensures.few refl),
  nothing_is_shape c.args.more.now c.add.new.more c.in-Ok.ensures.taken,
)
