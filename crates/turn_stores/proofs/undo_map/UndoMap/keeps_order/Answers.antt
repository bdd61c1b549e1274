use Rattle.turn_stores.specs.UndoPlaces.{had, has}
use Rattle.turn_stores.proofs.Order.{entries_sorted}
use Rattle.turn_stores.proofs.undo_map.UndoMap.keeps_order.Goals as goal

pub returns-clause-start : goal.returns-clause-start
returns-clause-start g c = rw (← c.self.view_is) (entries_sorted g.K.Ord.cmp had c.self.inside.places.entries c.self.invariant.ordered)

pub returns-clause-now : goal.returns-clause-now
returns-clause-now g c = rw (← c.self.view_is) (entries_sorted g.K.Ord.cmp has c.self.inside.places.entries c.self.invariant.ordered)
