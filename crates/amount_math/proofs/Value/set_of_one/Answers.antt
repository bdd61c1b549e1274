use Rattle.amount_math.proofs.Together.{one_is_set}
use Rattle.amount_math.proofs.Value.set_of_one.Goals as goal

pub invariant_of-result : goal.invariant_of-result
invariant_of-result c = rw c.in-Ok.ensures.ok (one_is_set c.args.key c.requires)
