use Rattle.std.proofs.Common.{◌≡◌, ◌++◌, map, take}
use Rattle.promise_store.specs.Cascade.{settled_in}
use Rattle.promise_store.specs.Linked.{outcome}
use Rattle.promise_store.proofs.links.push_outcomes.Given as goal

abbrev pub invariant-loop-event : goal.invariant-loop-event
invariant-loop-event l = l.outcomes.items ≡ l.initial.outcomes.items ++ map (outcome l.settlement) (settled_in (take l.event-index l.events))
