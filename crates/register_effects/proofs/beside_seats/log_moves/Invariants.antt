use Rattle.std.proofs.Common.{◌≡◌, ◌++◌, length, map}
use Rattle.std.specs.Vec.Iter.{into_iter_items, into_iter_len}
use Rattle.world_laws.specs.turn_records.Logs.{log_of}
use Rattle.world_laws.specs.turn_records.Events.{moved}
use Rattle.register_effects.proofs.beside_seats.log_moves.Given as goal

abbrev pub invariant-loop-movement : goal.invariant-loop-movement
invariant-loop-movement l = record {
  can : (goal.iterator-loop-movement).can_next l.movement-iterator;
  finite : (goal.iterator-loop-movement).is_finite l.movement-iterator;
  told : log_of l.log ++ map moved (into_iter_items l.movement-iterator) ≡ log_of l.initial.log ++ map moved l.fn.moves.items;
  left : into_iter_len l.movement-iterator ≡ length (into_iter_items l.movement-iterator);
}
