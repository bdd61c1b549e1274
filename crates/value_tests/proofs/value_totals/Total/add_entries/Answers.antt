use Rattle.std.proofs.Common.{ap, arith}
use Rattle.refusals.specs.amount_math.Content.{count}
use Rattle.value_tests.proofs.Kept.{tally_next}
use Rattle.value_tests.proofs.value_totals.Total.add_entries.Goals as goal

pub add-requires : goal.add-requires
add-requires c =
    let k = c.as_str.result.now in
    let next = tally_next c.args.entries.now c.loop-entry.entry-index c.entry-item.result c.loop-entry-test.true c.entry-item.is in
    omega (arith, c.loop-entry.invariant c.entry-item.result.0, c.requires c.entry-item.result.0, next, c.count.ensures, ap (count c.loop-entry.self) c.as_str.ensures, ap (count c.loop-entry.self) c.key.ensures)
