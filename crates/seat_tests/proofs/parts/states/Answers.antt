use Rattle.seat_tests.proofs.OneBrand.{all_further}
use Rattle.seat_tests.proofs.parts.states.Goals as goal

pub loop-given-preserved : goal.loop-given-preserved
loop-given-preserved g c = rw c.add_state.ensures (all_further c.loop-given.states c.state.result c.loop-given.invariant c.state.ensures)
