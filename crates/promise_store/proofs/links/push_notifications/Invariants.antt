use Rattle.std.proofs.Common.{◌≡◌, ◌++◌, map, take}
use Rattle.promise_store.specs.Cascade.{notified}
use Rattle.promise_store.proofs.links.push_notifications.Given as goal

abbrev pub invariant-loop-request : goal.invariant-loop-request
invariant-loop-request l = l.events.items ≡ l.initial.events.items ++ map (notified l.promise) (take l.request-index l.requests)
