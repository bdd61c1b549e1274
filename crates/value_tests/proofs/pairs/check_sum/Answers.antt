use Rattle.std.proofs.Common.{refl}
use Rattle.refusals.specs.amount_math.Content.{sum}
use Rattle.value_tests.proofs.Sums.{refused, value_passes}
use Rattle.value_tests.proofs.pairs.check_sum.Goals as goal

pub returns-in-Ok-clause-gives : goal.returns-in-Ok-clause-gives
returns-in-Ok-clause-gives c = value_passes c.args.held.now.kind (sum c.args.held.now.content c.args.given.now.content) (c.in-Ok.ensures.ok refl)

pub returns-in-Err-clause-gives : goal.returns-in-Err-clause-gives
returns-in-Err-clause-gives c = rw c.of_put.ensures (refused c.args.held.now.kind (sum c.args.held.now.content c.args.given.now.content) c.in-Err.fault c.in-Err.ensures.refused)
