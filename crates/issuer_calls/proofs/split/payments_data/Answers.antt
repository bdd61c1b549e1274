use Rattle.std.proofs.Common.{◌<◌, length, arith}
use Rattle.issuer_calls.proofs.PartLists.{one_part}
use Rattle.issuer_calls.proofs.split.payments_data.Goals as goal

pub loop-part-preserved : goal.loop-part-preserved
loop-part-preserved c =
    let low : c.loop-part._part-index < length c.args.parts.now = c.loop-part-test.true in
    record {
      payments = rw c.push_reserved.ensures.items (one_part c.args.first c.loop-part.number c.loop-part._part-index c.args.parts.now c._part-item.result c.loop-part.payments.items c.object_data.result low c.loop-part.invariant.number c.loop-part.invariant.payments c.object_data.ensures);
      number = omega arith;
      counted = omega (arith, c.push_reserved.ensures.len, c.loop-part.invariant.counted);
      room = rw c.push_reserved.ensures.capacity c.loop-part.invariant.room;
    }
