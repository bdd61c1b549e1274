use Rattle.std.proofs.Common.{arith}
use Rattle.value_tests.proofs.Kept.{counted_ends, counted_next, most_small}
use Rattle.value_tests.proofs.wholes.counted_together.Goals as goal

pub loop-value-preserved : goal.loop-value-preserved
loop-value-preserved c = record {
  all = omega (arith, c.loop-value.invariant.all, c.total.ensures.total, c.add.ensures, counted_next c.args.values.now c.loop-value.value-index c.value-item.result c.loop-value-test.true c.value-item.is);
  small = omega (arith, c.loop-value.invariant.small, c.total.ensures.bounded, most_small c.value-item.result.now.kind, c.add.ensures);
}

pub returns-clause-counted : goal.returns-clause-counted
returns-clause-counted c = omega (arith, c.loop-value.invariant.all, counted_ends c.args.values.now c.loop-value.value-index c.loop-value-test.false)
