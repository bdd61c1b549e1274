use Rattle.rearrange.proofs.Changes.{all_changed}
use Rattle.rearrange.proofs.sums.unlike_parts_of.Goals as goal

pub loop-seat-preserved : goal.loop-seat-preserved
loop-seat-preserved c = all_changed c.args.states.now c.args.list.now c.loop-seat.seat-index c.seat-item.result _ _ c.loop-seat-test.true c.seat-item.is c.loop-seat.invariant c.in_ok-add_unlike_seat.ensures
