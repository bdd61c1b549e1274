use Rattle.amount_math.proofs.Shapes.{outstanding_of_shape}
use Rattle.amount_math.proofs.holding.Holding.kind.Goals as goal

pub returns-clause-held : goal.returns-clause-held
returns-clause-held c = rw (← c.self.view_is) (record { out = outstanding_of_shape c.self.inside.shape c.self.invariant; room = c.keys-keys.ensures.room })
