use Rattle.std.proofs.Common.{drop}
use Rattle.draft_effects.specs.HandStore.{IsCarrying}
use Rattle.draft_effects.proofs.stored_parts.move_parts.Given as goal

abbrev pub invariant-loop-movement : goal.invariant-loop-movement
invariant-loop-movement l = IsCarrying l.fn.draft l.draft l.moves (drop l.movement-index l.moves)
