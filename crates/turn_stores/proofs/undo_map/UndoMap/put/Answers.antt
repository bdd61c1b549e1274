use Rattle.turn_stores.specs.UndoPlaces.{had, has}
use Rattle.turn_stores.proofs.Changes.{absent_entry}
use Rattle.turn_stores.proofs.undo_map.UndoMap.put.Goals as goal

pub returns-in_default-clause-absent : goal.returns-in_default-clause-absent
returns-in_default-clause-absent g c =
    rw (← c.self.view_is) (absent_entry g.K.Ord.cmp g.met.K.Ord.total has c.self.inside.places.entries c.args.key c.self.invariant.ordered c.in_default.ensures.absent)

pub returns-in_default-clause-was_absent : goal.returns-in_default-clause-was_absent
returns-in_default-clause-was_absent g c =
    rw (← c.self.view_is) (absent_entry g.K.Ord.cmp g.met.K.Ord.total had c.self.inside.places.entries c.args.key c.self.invariant.ordered c.in_default.ensures.absent)
