use Rattle.std.proofs.Common.{◌≡◌, ◌+◌, ◌≤◌, ◌++◌, ◌∷◌, ◌∙◌, [], ap, arith, length, refl, vec_capacity}
use Rattle.turn_stores.specs.UndoPlaces.{empty_place, had, has}
use Rattle.turn_stores.proofs.Changes.{places_made}
use Rattle.turn_stores.proofs.Written.{entries-insert_entry}
use Rattle.turn_stores.proofs.undo_map.make_place.Goals as goal

pub returns-clause-places : goal.returns-clause-places
returns-clause-places g c =
    let fits : length c.args.places.now.entries + 1 ≤ vec_capacity c.push_reserved.new.self = omega (arith, c.in-Ok.ensures.ok, c.len.ensures.len, c.push_reserved.ensures.capacity) in
    let listed : c.push_reserved.new.self.items ≡ c.args.changed.now.items ++ c.args.key ∷ [] = c.push_reserved.ensures.items ∙ ap (λ ks. ks ++ c.args.key ∷ []) c.reserve.ensures.items in
    places_made g.K.Ord.cmp g.met.K.Ord.total c.args.places.now.entries c.insert_place.new.places.entries c.args.changed.now.items c.push_reserved.new.self.items _ _ c.args.key empty_place c.requires.places c.requires.absent refl c.insert_place.ensures.ordered c.in-Ok-insert_place.ensures.entries c.in-Ok-insert_place.ensures.looks c.in-Ok-insert_place.ensures.len fits listed

pub returns-clause-start : goal.returns-clause-start
returns-clause-start g c = rw c.in-Ok-insert_place.ensures.entries (entries-insert_entry had g.K.Ord.cmp c.args.places.now.entries c.args.key empty_place refl c.requires.absent)

pub returns-clause-now : goal.returns-clause-now
returns-clause-now g c = rw c.in-Ok-insert_place.ensures.entries (entries-insert_entry has g.K.Ord.cmp c.args.places.now.entries c.args.key empty_place refl c.requires.absent)
