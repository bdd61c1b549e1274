use Rattle.std.proofs.Common.{◌≡◌, take}
use Rattle.promise_store.specs.Cascade.{settled_in}
use Rattle.promise_store.specs.Nodes.{with_settlement}
use Rattle.promise_store.proofs.links.mark_outcomes.Given as goal

abbrev pub invariant-loop-event : goal.invariant-loop-event
invariant-loop-event l = l.nodes.items ≡ with_settlement l.settlement (settled_in (take l.event-index l.events)) l.initial.nodes.items
