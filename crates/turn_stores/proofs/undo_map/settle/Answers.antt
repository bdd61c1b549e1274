use Rattle.std.proofs.Common.{◌≡◌, ◌∙◌, refl, sym, None}
use Rattle.std.specs.BTreeMap.{is_at}
use Rattle.turn_stores.specs.UndoPlaces.{entries_of, settled}
use Rattle.turn_stores.proofs.Written.{entries-remove_entry, entries-set_value, none_settled, settled_again}
use Rattle.turn_stores.proofs.undo_map.settle.Goals as goal

pub returns-then-not-settle-clause-entries : goal.returns-then-not-settle-clause-entries
returns-then-not-settle-clause-entries g c =
    let test = is_at (g.K.Ord.cmp c.args.key) in
    let w = c.settle.new.self in
    let is : settled c.args.end w ≡ settled c.args.end c.in-Some.place.now = settled_again c.args.end w _ c.settle.ensures.same c.settle.ensures.now in
    let none : settled c.args.end c.in-Some.place.now ≡ None = none_settled _ (sym c.settle.ensures.has ∙ c.if-not-settle.true) in
    let there = (c.get_mut.follows.holds w).3 (rw (sym c.in-Some.ensures.value) refl) in
    let removed : entries_of (settled c.args.end) c.remove.new.self.entries ≡ entries_of (settled c.args.end) (c.get_mut.follows.lender c.settle.new.self).entries =
    rw c.remove.ensures.entries (entries-remove_entry (settled c.args.end) test (c.get_mut.follows.lender c.settle.new.self).entries w (is ∙ none) there.1) in
    let written : entries_of (settled c.args.end) (c.get_mut.follows.lender c.settle.new.self).entries ≡ entries_of (settled c.args.end) c.args.places.now.entries =
    rw (c.get_mut.follows.holds w).0 (entries-set_value (settled c.args.end) test c.args.places.now.entries w c.in-Some.place.now is (sym c.in-Some.ensures.value)) in
    removed ∙ written

pub returns-else-not-settle-clause-entries : goal.returns-else-not-settle-clause-entries
returns-else-not-settle-clause-entries g c =
    let w = c.settle.new.self in
    let is : settled c.args.end w ≡ settled c.args.end c.in-Some.place.now = settled_again c.args.end w _ c.settle.ensures.same c.settle.ensures.now in
    rw (c.get_mut.follows.holds w).0 (entries-set_value (settled c.args.end) (is_at (g.K.Ord.cmp c.args.key)) c.args.places.now.entries w c.in-Some.place.now is (sym c.in-Some.ensures.value))
