use Rattle.std.proofs.Common.{◌≡◌, ◌≤◌, true, drop, length}
use Rattle.std.specs.BTreeMap.{IsOrdered, get}
use Rattle.turn_stores.specs.UndoPlaces.{is_unsettled_at, is_listed, entries_of, settled}
use Rattle.turn_stores.proofs.undo_map.settle_all.Given as goal

abbrev pub invariant-loop-key : goal.invariant-loop-key
invariant-loop-key g l = record {
  ordered : IsOrdered g.K.Ord.cmp l.places;
  entries : entries_of (settled l.end) l.places.entries ≡ entries_of (settled l.end) l.initial.places.entries;
  listed : (q : g.row.K.Denot) → is_unsettled_at (get g.K.Ord.cmp l.places q) ≡ true → is_listed g.K.Ord.cmp q (drop l.key-index l.changed) ≡ true;
  few : length l.places.entries ≤ length l.initial.places.entries;
}
