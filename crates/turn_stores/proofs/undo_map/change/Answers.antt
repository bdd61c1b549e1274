use Rattle.std.proofs.Common.{◌≡◌, ◌<◌, ◌∙◌, sym, arith, true, length}
use Rattle.std.specs.Map.{values_of}
use Rattle.std.specs.List.{sum_by}
use Rattle.std.specs.BTreeMap.{is_at}
use Rattle.turn_stores.specs.UndoPlaces.{changes, had, is_same}
use Rattle.turn_stores.proofs.Written.{changes-less, entries-set_value}
use Rattle.turn_stores.proofs.Changes.{has_written, later_change, first_change}
use Rattle.turn_stores.proofs.Whole.{are_changed}
use Rattle.turn_stores.proofs.undo_map.change.Goals as goal

pub push_reserved-requires : goal.push_reserved-requires
push_reserved-requires g c =
    let same : is_same c.in-Some.place.now ≡ true = sym c.change.ensures.first ∙ c.if-change.true in
    let less : sum_by changes (values_of c.args.places.now.entries) < length c.args.places.now.entries = changes-less (is_at (g.K.Ord.cmp c.args.key)) c.args.places.now.entries c.in-Some.place.now same (sym c.in-Some.ensures.value) in
    omega arith

pub returns-then-change-clause-places : goal.returns-then-change-clause-places
returns-then-change-clause-places g c =
    rw ((c.get_mut.follows.holds c.change.new.self).0, c.push_reserved.ensures.capacity)
    (first_change g.K.Ord.cmp g.met.K.Ord.total c.args.places.now.entries c.args.changed.now.items _ _ c.args.key c.in-Some.place.now c.change.new.self c.requires.places (sym c.in-Some.ensures.value) (sym c.change.ensures.first ∙ c.if-change.true) c.change.ensures.changed c.push_reserved.ensures.items)

pub returns-then-change-clause-start : goal.returns-then-change-clause-start
returns-then-change-clause-start g c =
    rw (c.get_mut.follows.holds c.change.new.self).0
    (entries-set_value had (is_at (g.K.Ord.cmp c.args.key)) c.args.places.now.entries c.change.new.self c.in-Some.place.now c.change.ensures.start (sym c.in-Some.ensures.value))

pub returns-then-change-clause-values : goal.returns-then-change-clause-values
returns-then-change-clause-values g c = λ q.
    rw (c.get_mut.follows.holds c.change.new.self).0
    (has_written g.K.Ord.cmp g.met.K.Ord.total c.args.places.now.entries c.args.key q c.in-Some.place.now c.change.new.self c.args.value c.requires.places.ordered (sym c.in-Some.ensures.value) c.change.ensures.now)

pub returns-else-change-clause-places : goal.returns-else-change-clause-places
returns-else-change-clause-places g c =
    rw (c.get_mut.follows.holds c.change.new.self).0
    (later_change g.K.Ord.cmp g.met.K.Ord.total c.args.places.now.entries c.args.changed.now.items _ c.args.key c.in-Some.place.now c.change.new.self c.requires.places (sym c.in-Some.ensures.value) (sym c.change.ensures.first ∙ c.if-change.false) c.change.ensures.changed)

pub returns-else-change-clause-start : goal.returns-else-change-clause-start
returns-else-change-clause-start g c =
    rw (c.get_mut.follows.holds c.change.new.self).0
    (entries-set_value had (is_at (g.K.Ord.cmp c.args.key)) c.args.places.now.entries c.change.new.self c.in-Some.place.now c.change.ensures.start (sym c.in-Some.ensures.value))

pub returns-else-change-clause-values : goal.returns-else-change-clause-values
returns-else-change-clause-values g c = λ q.
    rw (c.get_mut.follows.holds c.change.new.self).0
    (has_written g.K.Ord.cmp g.met.K.Ord.total c.args.places.now.entries c.args.key q c.in-Some.place.now c.change.new.self c.args.value c.requires.places.ordered (sym c.in-Some.ensures.value) c.change.ensures.now)

pub returns-then-change-clause-now : goal.returns-then-change-clause-now
returns-then-change-clause-now g c =
    rw (c.get_mut.follows.holds c.change.new.self).0
    (are_changed g.K.Ord.cmp g.met.K.Ord.total c.args.key c.args.value c.args.places.now.entries c.change.new.self c.in-Some.place.now c.requires.places.ordered c.change.ensures.now (sym c.in-Some.ensures.value))

pub returns-else-change-clause-now : goal.returns-else-change-clause-now
returns-else-change-clause-now g c =
    rw (c.get_mut.follows.holds c.change.new.self).0
    (are_changed g.K.Ord.cmp g.met.K.Ord.total c.args.key c.args.value c.args.places.now.entries c.change.new.self c.in-Some.place.now c.requires.places.ordered c.change.ensures.now (sym c.in-Some.ensures.value))
