use Rattle.std.proofs.Common.{arith}
use Rattle.amount_math.proofs.Permuted.{moved_key}
use Rattle.amount_math.proofs.made.each_once.Goals as goal

pub loop-key-preserved : goal.loop-key-preserved
loop-key-preserved c =
    let room = c.loop-key.invariant.room in
    record {
      same = rw (c.push_reserved.ensures.items, c.new.ensures) (moved_key _ c.loop-key.made.items c.pop.new.self.items c.in-Some.key (rw c.in-Some.ensures.items at c.loop-key.invariant.same));
      room = omega (arith, c.push_reserved.ensures.len, c.push_reserved.ensures.capacity, c.in-Some.ensures.len, room);
    }
