use Rattle.std.proofs.Common.{◌≡◌, length, take}
use Rattle.promise_store.specs.Undone.{UndoesOutcomes}
use Rattle.promise_store.proofs.links.undo_outcomes.Given as goal

abbrev pub invariant-loop-outcomes : goal.invariant-loop-outcomes
invariant-loop-outcomes l =
    UndoesOutcomes l.initial.nodes.items l.initial.outcomes.items l.nodes.items l.outcomes.items
    × (length l.nodes.items ≡ length l.initial.nodes.items) × (take l.kept l.outcomes.items ≡ take l.kept l.initial.outcomes.items)

abbrev pub decreases-loop-outcomes : goal.decreases-loop-outcomes
decreases-loop-outcomes l = length l.outcomes.items
