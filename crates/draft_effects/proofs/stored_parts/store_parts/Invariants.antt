use Rattle.std.proofs.Common.{drop, map}
use Rattle.draft_effects.specs.HandStore.{IsCarrying, into_hand}
use Rattle.draft_effects.proofs.stored_parts.store_parts.Given as goal

abbrev pub invariant-loop-movement : goal.invariant-loop-movement
invariant-loop-movement l = IsCarrying l.fn.draft l.draft (map into_hand l.moves) (map into_hand (drop l.movement-index l.moves))
