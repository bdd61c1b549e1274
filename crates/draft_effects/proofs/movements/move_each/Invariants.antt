use Rattle.std.proofs.Common.{drop}
use Rattle.draft_effects.specs.Steps.{IsMoving}
use Rattle.draft_effects.proofs.movements.move_each.Given as goal

abbrev pub invariant-loop-movement : goal.invariant-loop-movement
invariant-loop-movement l = IsMoving l.fn.draft l.draft l.moves (drop l.movement-index l.moves)
