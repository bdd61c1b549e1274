use Rattle.amount_math.specs.KindLaws.{has_few}
use Rattle.amount_math.specs.ValueView.{fits_from_value}
use Rattle.amount_math.proofs.Shapes.{sum_is_value}
use Rattle.amount_math.proofs.Value.can_absorb.Goals as goal

pub returns-clause-ok : goal.returns-clause-ok
returns-clause-ok c =
    let kinds = rw (← c.self.view_is, ← c.other.view_is) at c.requires in
    rw (← c.self.view_is, ← c.other.view_is) (λ ok. sum_is_value c.self.inside.shape c.other.inside.shape kinds c.self.invariant c.other.invariant (c.check_sum.ensures.fits ok) (c.check_sum.ensures.few ok))

pub returns-clause-sure : goal.returns-clause-sure
returns-clause-sure c = rw (← c.self.view_is, ← c.other.view_is) (λ value. c.check_sum.ensures.sure (fits_from_value _ _ value) (has_few _ _ value))
