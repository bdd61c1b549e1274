use Rattle.std.proofs.Common.{arith}
use Rattle.host_data.specs.Tree.{text_of}
use Rattle.host_data.specs.View.{tree}
use Rattle.host_data.proofs.ReadLists.{read_more}
use Rattle.host_data.proofs.amounts.keys.Goals as goal

pub loop-item-preserved : goal.loop-item-preserved
loop-item-preserved c =
    let before = c.loop-item.invariant in
    record {
      read = rw c.push_reserved.ensures.items (read_more text_of tree c.args.items.now c.loop-item.item-index c.loop-item.keys.items before.read c.item-item.result c.in_ok-key.field-0 c.loop-item-test.true c.item-item.is c.in_ok-key.ensures);
      counted = omega (arith, c.push_reserved.ensures.len, before.counted);
      room = omega (arith, c.push_reserved.ensures.capacity, before.room);
    }
