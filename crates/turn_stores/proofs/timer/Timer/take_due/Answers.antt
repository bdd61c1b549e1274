use Rattle.std.proofs.Common.{◌≡◌, ◌∙◌, sym, Some}
use Rattle.turn_stores.specs.WaitingPlaces.{due_key}
use Rattle.turn_stores.proofs.Due.{taken}
use Rattle.turn_stores.proofs.timer.Timer.take_due.Goals as goal

pub invariant_of-self : goal.invariant_of-self
invariant_of-self g c =
    let is : Some c.in-Some.key ≡ due_key c.self.inside.current.time c.self.inside.entries.now = sym c.in-Some.is ∙ c.first_due_key.ensures in
    let left = taken c.self.inside.current.time c.self.inside.current.made c.in-Some.key c.self.inside.entries.now is c.keeps_order.ensures.now c.self.invariant.numbered in
    record {
      numbered = rw c.take_out.ensures.now left.0;
      were_numbered = rw c.take_out.ensures.start c.self.invariant.were_numbered;
      first = rw c.take_out.ensures.now left.1;
    }
