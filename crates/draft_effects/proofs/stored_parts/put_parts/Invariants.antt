use Rattle.std.proofs.Common.{drop, map}
use Rattle.draft_effects.specs.HandStore.{IsCarrying, out_of_hand}
use Rattle.draft_effects.proofs.stored_parts.put_parts.Given as goal

abbrev pub invariant-loop-movement : goal.invariant-loop-movement
invariant-loop-movement l = IsCarrying l.fn.draft l.draft (map out_of_hand l.moves) (map out_of_hand (drop l.movement-index l.moves))
