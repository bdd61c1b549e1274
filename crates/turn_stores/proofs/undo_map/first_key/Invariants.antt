use Rattle.std.proofs.Common.{◌≡◌}
use Rattle.turn_stores.specs.UndoPlaces.{has, entries_of}
use Rattle.turn_stores.specs.UndoTurns.{first_from}
use Rattle.turn_stores.proofs.Written.{first_key}
use Rattle.turn_stores.proofs.undo_map.first_key.Given as goal

abbrev pub invariant-loop-at : goal.invariant-loop-at
invariant-loop-at g l = first_from g.K.Ord.cmp l.fn.key (entries_of has l.fn.places.entries) ≡ first_key (entries_of has l.at-iterator)
