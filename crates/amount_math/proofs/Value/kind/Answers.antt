use Rattle.amount_math.proofs.Shapes.{is_value}
use Rattle.amount_math.proofs.Value.kind.Goals as goal

pub returns-clause-value : goal.returns-clause-value
returns-clause-value c = is_value _ _ c.self.view_is c.self.invariant
