use Rattle.std.proofs.Common.{◌≡◌, ◌++◌, map}
use Rattle.promise_store.specs.Steps.{settle_todo}
use Rattle.promise_store.proofs.links.push_settles.Given as goal

abbrev pub invariant-loop-follower : goal.invariant-loop-follower
invariant-loop-follower l = l.todo.items ≡ l.initial.todo.items ++ map settle_todo (map (λ b. b.now) l.yielded)
