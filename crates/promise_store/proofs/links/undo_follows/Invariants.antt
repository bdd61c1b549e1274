use Rattle.std.proofs.Common.{◌≡◌, length, take}
use Rattle.promise_store.specs.Undone.{UndoesFollows}
use Rattle.promise_store.proofs.links.undo_follows.Given as goal

abbrev pub invariant-loop-follows : goal.invariant-loop-follows
invariant-loop-follows l =
    UndoesFollows l.initial.nodes.items l.initial.follows.items l.nodes.items l.follows.items
    × (length l.nodes.items ≡ length l.initial.nodes.items) × (take l.kept l.follows.items ≡ take l.kept l.initial.follows.items)

abbrev pub decreases-loop-follows : goal.decreases-loop-follows
decreases-loop-follows l = length l.follows.items
