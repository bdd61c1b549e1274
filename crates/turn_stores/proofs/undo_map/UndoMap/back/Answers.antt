use Rattle.std.proofs.Common.{refl, sym}
use Rattle.turn_stores.specs.declared.undo_map.place.End.TheVariants.{Back}
use Rattle.turn_stores.proofs.Changes.{ended, places_ended}
use Rattle.turn_stores.proofs.undo_map.UndoMap.back.Goals as goal

pub invariant_of-self : goal.invariant_of-self
invariant_of-self g c =
    places_ended g.K.Ord.cmp c.self.inside.places.entries c.settle_all.new.places.entries _ _ _ c.self.invariant.room_for_all c.settle_all.ensures.ordered c.settle_all.ensures.few (sym c.clear.ensures.capacity) c.clear.ensures.items c.settle_all.ensures.settled

pub returns : goal.returns
returns g c =
    let e = ended g.K.Ord.cmp g.met.K.Ord.total Back c.self.inside.places.entries c.settle_all.new.places.entries c.settle_all.ensures.ordered c.settle_all.ensures.entries c.settle_all.ensures.settled in
    rw (← c.self.view_is, e.0, e.1) refl
