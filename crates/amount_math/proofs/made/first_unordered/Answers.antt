use Rattle.std.proofs.Common.{arith}
use Rattle.amount_math.proofs.Permuted.{rising_from_neighbours}
use Rattle.amount_math.proofs.made.first_unordered.Goals as goal

pub returns-clause-none : goal.returns-clause-none
returns-clause-none c = λ _. rising_from_neighbours c.args.entries.now (λ j lt. c.loop-i.invariant j (omega (arith, lt, c.loop-i-test.false)))
