use Rattle.std.proofs.Common.{◌≡◌, length}
use Rattle.std.specs.Vec.Iter.{into_iter_items, into_iter_len}
use Rattle.world_effects.proofs.EffectSequences.{IsCarrying}
use Rattle.world_effects.proofs.carry_all.Given as goal

abbrev pub invariant-loop-effect : goal.invariant-loop-effect
invariant-loop-effect l = record {
  can : (goal.iterator-loop-effect).can_next l.effect-iterator;
  finite : (goal.iterator-loop-effect).is_finite l.effect-iterator;
  carrying : IsCarrying l.initial.world l.world l.fn.effects.items (into_iter_items l.effect-iterator);
  left : into_iter_len l.effect-iterator ≡ length (into_iter_items l.effect-iterator);
}
