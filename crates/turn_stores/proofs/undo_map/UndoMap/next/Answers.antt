use Rattle.turn_stores.specs.UndoPlaces.{entries_of, has}
use Rattle.turn_stores.proofs.Order.{entries_sorted, first_before, first_from_on, first_nowhere, first_there}
use Rattle.turn_stores.proofs.undo_map.UndoMap.next.Goals as goal

pub returns-clause-there : goal.returns-clause-there
returns-clause-there g c =
    let es = c.self.inside.places.entries in
    rw (← c.self.view_is) (first_there g.met.K.Ord.total c.args.key (entries_of has es) c.first_key.result (entries_sorted g.K.Ord.cmp has es c.self.invariant.ordered) c.first_key.ensures)

pub returns-clause-at_least : goal.returns-clause-at_least
returns-clause-at_least g c =
    let es = c.self.inside.places.entries in
    first_from_on g.met.K.Ord.total c.args.key (entries_of has es) c.first_key.result (entries_sorted g.K.Ord.cmp has es c.self.invariant.ordered) c.first_key.ensures

pub returns-clause-first : goal.returns-clause-first
returns-clause-first g c =
    let es = c.self.inside.places.entries in
    rw (← c.self.view_is) (first_before g.met.K.Ord.total c.args.key (entries_of has es) c.first_key.result (entries_sorted g.K.Ord.cmp has es c.self.invariant.ordered) c.first_key.ensures)

pub returns-clause-none : goal.returns-clause-none
returns-clause-none g c =
    let es = c.self.inside.places.entries in
    rw (← c.self.view_is) (first_nowhere g.met.K.Ord.total c.args.key (entries_of has es) c.first_key.result (entries_sorted g.K.Ord.cmp has es c.self.invariant.ordered) c.first_key.ensures)
