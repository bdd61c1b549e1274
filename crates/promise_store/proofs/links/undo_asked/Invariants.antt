use Rattle.std.proofs.Common.{◌≡◌, length, take}
use Rattle.promise_store.specs.Undone.{UndoesAsked}
use Rattle.promise_store.proofs.links.undo_asked.Given as goal

abbrev pub invariant-loop-asked : goal.invariant-loop-asked
invariant-loop-asked l =
    UndoesAsked l.initial.nodes.items l.initial.asked.items l.nodes.items l.asked.items
    × (length l.nodes.items ≡ length l.initial.nodes.items) × (take l.kept l.asked.items ≡ take l.kept l.initial.asked.items)

abbrev pub decreases-loop-asked : goal.decreases-loop-asked
decreases-loop-asked l = length l.asked.items
