use Rattle.std.proofs.Common.{List, [], ◌∷◌, ◌++◌, reverse}
use Rattle.std.specs.List.{sum_by}
use Rattle.promise_store.specs.declared.links.Consequence.{Consequence}
use Rattle.promise_store.specs.Cascade.{Settles}
use Rattle.promise_store.proofs.Cascade.{Remains, step_weight}
use Rattle.promise_store.proofs.links.Links.hanging.Given as goal

abbrev pub invariant-loop-step : goal.invariant-loop-step
invariant-loop-step l = (rest : List Consequence) → Remains l.self.now (reverse l.todo.items) rest → Settles l.self.now (l.promise ∷ []) (l.events.items ++ rest)

abbrev pub decreases-loop-step : goal.decreases-loop-step
decreases-loop-step l = sum_by (step_weight l.self.now.follows) l.todo.items
