use Rattle.std.proofs.Common.{ap}
use Rattle.amount_math.specs.Held.{Held, comes_back}
use Rattle.amount_math.specs.Shapes.{held_by, value_view}
use Rattle.amount_math.proofs.Shapes.{counted_shape, counted_sum}
use Rattle.amount_math.proofs.holding.Holding.put_back.Goals as goal

pub invariant_of-self : goal.invariant_of-self
invariant_of-self c =
    let goes = rw (← c.self.view_is, ← c.value.view_is) at c.requires in
    let is = ap (λ (h : Held). h.value) c.put_back.ensures in
    counted_sum c.self.inside.shape c.value.inside.shape c.put_back.new.self goes.kind is goes.fits c.self.invariant (counted_shape c.value.inside.shape c.value.invariant)

pub returns-clause-out : goal.returns-clause-out
returns-clause-out c =
    let goes = rw (← c.self.view_is, ← c.value.view_is) at c.requires in
    rw (← c.value.view_is) (rw c.put_back.ensures (comes_back (held_by c.self.inside.shape) (value_view c.value.inside.shape) goes))
