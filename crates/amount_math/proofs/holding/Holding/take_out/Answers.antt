use Rattle.std.proofs.Common.{◌≡◌}
use Rattle.amount_math.specs.Held.{goes_back, with_less}
use Rattle.amount_math.specs.Shapes.{held_by, value_view}
use Rattle.amount_math.proofs.Shapes.{counted_difference, outstanding_of_shape}
use Rattle.amount_math.proofs.holding.Holding.take_out.Goals as goal

pub invariant_of-self : goal.invariant_of-self
invariant_of-self c =
    let out = rw (← c.self.view_is, ← c.part.view_is) at c.requires in
    counted_difference c.self.inside.shape c.part.inside.shape c.lessen.new.self out.kind c.lessen.ensures.less c.self.invariant

pub returns-clause-back : goal.returns-clause-back
returns-clause-back c =
    let out = rw (← c.self.view_is, ← c.part.view_is) at c.requires in
    let left : held_by c.lessen.new.self ≡ with_less (held_by c.self.inside.shape) (value_view c.part.inside.shape).content = λ i. record { value = c.lessen.ensures.less i; room = c.lessen.ensures.room i } in
    rw (← c.part.view_is) (rw left (goes_back (held_by c.self.inside.shape) (value_view c.part.inside.shape) (record { out = outstanding_of_shape c.self.inside.shape c.self.invariant; room = c.keys-keys.ensures.room }) out))
