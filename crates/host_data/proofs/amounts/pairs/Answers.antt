use Rattle.std.proofs.Common.{arith}
use Rattle.host_data.specs.View.{tree}
use Rattle.host_data.specs.Amounts.{pair_in}
use Rattle.host_data.proofs.ReadLists.{read_more}
use Rattle.host_data.proofs.amounts.pairs.Goals as goal

pub loop-item-preserved : goal.loop-item-preserved
loop-item-preserved c =
    let before = c.loop-item.invariant in
    record {
      read = rw c.push_reserved.ensures.items (read_more pair_in tree c.args.items.now c.loop-item.item-index c.loop-item.pairs.items before.read c.item-item.result c.in_ok-pair.field-0 c.loop-item-test.true c.item-item.is c.in_ok-pair.ensures);
      counted = omega (arith, c.push_reserved.ensures.len, before.counted);
      room = omega (arith, c.push_reserved.ensures.capacity, before.room);
    }
