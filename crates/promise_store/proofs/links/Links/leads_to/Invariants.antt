use Rattle.promise_store.specs.Linked.{LeadsTo}
use Rattle.promise_store.proofs.Forest.{height}
use Rattle.promise_store.proofs.links.Links.leads_to.Given as goal

abbrev pub invariant-loop-at : goal.invariant-loop-at
invariant-loop-at l = (LeadsTo l.self.now.follows l.promise l.at → LeadsTo l.self.now.follows l.promise l.from) × (LeadsTo l.self.now.follows l.promise l.from → LeadsTo l.self.now.follows l.promise l.at)

abbrev pub decreases-loop-at : goal.decreases-loop-at
decreases-loop-at l = height l.self.now.follows l.at
