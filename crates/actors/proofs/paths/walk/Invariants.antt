use Rattle.std.proofs.Common.{◌≡◌, ◌+◌, length}
use Rattle.std.specs.Option.{option_map_or}
use Rattle.promise_store.specs.host_data.View.{tree}
use Rattle.promise_store.specs.Views.{now_of}
use Rattle.actors.specs.Paths.{states_in, steps_behind, walked}
use Rattle.actors.proofs.paths.walk.Given as goal

abbrev pub invariant-loop-left : goal.invariant-loop-left
invariant-loop-left g l =
    walked (states_in (now_of l.promises)) (tree l.part) (steps_behind l.left)
    ≡ walked (states_in (now_of l.promises)) (tree l.initial.part) (steps_behind l.initial.left)

abbrev pub decreases-loop-left : goal.decreases-loop-left
decreases-loop-left g l = option_map_or (λ path. length path.now + 1) l.left 0
