use Rattle.std.proofs.Common.{◌≡◌, ◌==◌, ◌&&◌, true, false, add-one, get_or, sym, subst, ap, ◌∙◌}
use Rattle.std.specs.Str.{bytes_eq}
use Rattle.told_seats.specs.SlotViews.{IsLastOf}
use Rattle.told_seats.specs.declared.slots.SlotName.{SlotName}
use Rattle.told_seats.proofs.SlotLists.{last_item, under_here, under_next}
use Rattle.told_seats.proofs.slots.content_under.Goals as goal

pub returns-then-is_named : goal.returns-then-is_named
returns-then-is_named c =
    let here : (bytes_eq c.args.keyword.now (get_or c.args.slots.now c.loop-i.i c.index-slots-i.result).keyword && (c.args.brand == (get_or c.args.slots.now c.loop-i.i c.index-slots-i.result).brand)) ≡ true =
    ap (λ (s : SlotName). bytes_eq c.args.keyword.now s.keyword && (c.args.brand == s.brand)) (sym c.index-slots-i.is) ∙ sym c.is_named.ensures ∙ c.if-is_named.true in
    subst (IsLastOf c.get.result)
    (sym (under_here c.args.keyword.now c.args.brand c.loop-i.i c.args.slots.now c.args.contents.now c.index-slots-i.result c.loop-i-test.true here) ∙ c.loop-i.invariant)
    (last_item c.args.contents.now c.loop-i.i c.get.result c.get.ensures.lookup)

pub loop-i-preserved : goal.loop-i-preserved
loop-i-preserved c =
    let other : (bytes_eq c.args.keyword.now (get_or c.args.slots.now c.loop-i.i c.index-slots-i.result).keyword && (c.args.brand == (get_or c.args.slots.now c.loop-i.i c.index-slots-i.result).brand)) ≡ false =
    ap (λ (s : SlotName). bytes_eq c.args.keyword.now s.keyword && (c.args.brand == s.brand)) (sym c.index-slots-i.is) ∙ sym c.is_named.ensures ∙ c.if-is_named.false in
    rw add-one
    (sym (under_next c.args.keyword.now c.args.brand c.loop-i.i c.args.slots.now c.args.contents.now c.index-slots-i.result c.loop-i-test.true other) ∙ c.loop-i.invariant)
