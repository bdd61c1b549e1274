use Rattle.std.proofs.Common.{◌∙◌, sym, ap}
use Rattle.turn_stores.specs.UndoPlaces.{has}
use Rattle.turn_stores.proofs.Written.{of_place}
use Rattle.turn_stores.proofs.Changes.{value_now_of}
use Rattle.turn_stores.proofs.undo_map.UndoMap.get.Goals as goal

pub returns-in-Some : goal.returns-in-Some
returns-in-Some g c =
    rw (← c.self.view_is)
    (c.as_ref.ensures.value ∙ sym (value_now_of g.K.Ord.cmp g.met.K.Ord.total c.self.inside.places.entries c.args.key c.self.invariant.ordered ∙ ap (of_place has) (sym c.in-Some.ensures.value)))

pub returns-in-None : goal.returns-in-None
returns-in-None g c =
    rw (← c.self.view_is)
    (sym (value_now_of g.K.Ord.cmp g.met.K.Ord.total c.self.inside.places.entries c.args.key c.self.invariant.ordered ∙ ap (of_place has) (sym c.in-None.ensures.value)))
