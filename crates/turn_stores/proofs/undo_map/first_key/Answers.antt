use Rattle.std.proofs.Common.{◌≡◌, ◌∷◌, ◌∙◌, [], sym, ap, Some}
use Rattle.std.specs.Map.Iter.{deref_pair}
use Rattle.std.proofs.lemmas.Map.Iter.{rest_all, rest_more}
use Rattle.turn_stores.specs.UndoPlaces.{has, entries_of}
use Rattle.turn_stores.proofs.Written.{first_from-range, first_key, first_none, first_value}
use Rattle.turn_stores.proofs.undo_map.first_key.Goals as goal

pub loop-at-init : goal.loop-at-init
loop-at-init g c =
    first_from-range g.K.Ord.cmp c.args.key c.args.places.now.entries ∙ ap (λ es. first_key (entries_of has es)) (sym (c.into_iter-at-iterator.ensures.into_iter_gives ∙ c.range-at-items.ensures.between tt))

pub loop-at-preserved : goal.loop-at-preserved
loop-at-preserved g c =
    let left : c.loop-at.at-iterator ≡ (c.in-Some.at.now, c.in-Some.place.now) ∷ c.next.new.self = rest_more deref_pair c.loop-at.at-iterator c.next.new.self c.next.result (c.in-Some.at, c.in-Some.place) c.in-Some.is c.next.ensures.steps in
    c.loop-at.invariant ∙ (ap (λ es. first_key (entries_of has es)) left ∙ first_none (c.in-Some.at.now, c.in-Some.place.now) c.next.new.self (sym c.is_some.ensures ∙ c.if-is_some.false))

pub returns-then-is_some : goal.returns-then-is_some
returns-then-is_some g c =
    let left : c.loop-at.at-iterator ≡ (c.in-Some.at.now, c.in-Some.place.now) ∷ c.next.new.self = rest_more deref_pair c.loop-at.at-iterator c.next.new.self c.next.result (c.in-Some.at, c.in-Some.place) c.in-Some.is c.next.ensures.steps in
    ap (λ k. Some k) c.copied.ensures ∙ sym (c.loop-at.invariant ∙ (ap (λ es. first_key (entries_of has es)) left ∙ first_value (c.in-Some.at.now, c.in-Some.place.now) c.next.new.self (sym c.is_some.ensures ∙ c.if-is_some.true)))

pub returns : goal.returns
returns g c =
    let left : c.loop-at.at-iterator ≡ [] = rest_all deref_pair c.loop-at.at-iterator c.next.new.self c.next.result c.in-None.is c.next.ensures.steps in
    sym (c.loop-at.invariant ∙ ap (λ es. first_key (entries_of has es)) left)
