use Rattle.std.proofs.Common.{◌∙◌, sym}
use Rattle.std.specs.BTreeMap.{is_at}
use Rattle.turn_stores.specs.UndoPlaces.{entries_of, has}
use Rattle.turn_stores.proofs.Whole.{absent_removed}
use Rattle.turn_stores.proofs.undo_map.UndoMap.take_out.Goals as goal

pub returns-else-had-clause-now : goal.returns-else-had-clause-now
returns-else-had-clause-now g c =
    rw (← c.self.view_is)
    (sym (absent_removed (is_at (g.K.Ord.cmp c.args.key)) (entries_of has c.self.inside.places.entries) (sym c.has_value-had.ensures.has ∙ c.if-had.false)))
