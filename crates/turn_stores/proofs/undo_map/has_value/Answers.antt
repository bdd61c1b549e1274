use Rattle.std.proofs.Common.{◌∙◌, sym, ap}
use Rattle.std.specs.Prelude.{is_some}
use Rattle.turn_stores.specs.UndoPlaces.{has}
use Rattle.turn_stores.proofs.Written.{of_place}
use Rattle.turn_stores.proofs.Changes.{value_now_of}
use Rattle.turn_stores.proofs.undo_map.has_value.Goals as goal

pub returns-in-Some-clause-has : goal.returns-in-Some-clause-has
returns-in-Some-clause-has g c =
    let is = value_now_of g.K.Ord.cmp g.met.K.Ord.total c.args.places.now.entries c.args.key c.requires.ordered ∙ ap (of_place has) (sym c.in-Some.ensures.value) in
    rw is c.is_some.ensures

pub returns-in-None-clause-has : goal.returns-in-None-clause-has
returns-in-None-clause-has g c =
    let is = value_now_of g.K.Ord.cmp g.met.K.Ord.total c.args.places.now.entries c.args.key c.requires.ordered ∙ ap (of_place has) (sym c.in-None.ensures.value) in
    sym (ap (λ o. is_some o) is)
