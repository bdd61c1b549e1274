use Rattle.std.proofs.Common.{ap, arith}
use Rattle.refusals.specs.amount_math.Content.{Content, count, count-nothing}
use Rattle.value_tests.proofs.Kept.{total_ends, total_next}
use Rattle.value_tests.proofs.value_totals.Total.add_values.Goals as goal

pub loop-value-init : goal.loop-value-init
loop-value-init c = record {
  each = λ k. omega (arith, ap (λ (t : Content). count t k) c.requires, count-nothing k);
  bounded = λ k. omega (arith, ap (λ (t : Content). count t k) c.requires, count-nothing k);
}

pub loop-value-preserved : goal.loop-value-preserved
loop-value-preserved c = record {
  each = λ k. omega (arith, c.loop-value.invariant.each k, c.in_ok-add_value.ensures.more k, total_next c.args.values.now c.loop-value.value-index c.value-item.result c.loop-value-test.true c.value-item.is k);
  bounded = λ k. omega (arith, c.loop-value.invariant.bounded k, c.in_ok-add_value.ensures.more k, c.in_ok-add_value.ensures.bounded k);
}

pub returns : goal.returns
returns c = total_ends c.args.values.now c.loop-value.value-index c.loop-value.self c.loop-value-test.false c.loop-value.invariant.each
