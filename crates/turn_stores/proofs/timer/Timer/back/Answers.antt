use Rattle.turn_stores.proofs.Due.{from_first}
use Rattle.turn_stores.proofs.timer.Timer.back.Goals as goal

pub invariant_of-self : goal.invariant_of-self
invariant_of-self g c = rw c.back.ensures (record {
  numbered = c.self.invariant.were_numbered;
  were_numbered = c.self.invariant.were_numbered;
  first = from_first c.self.inside.entries.start;
})
