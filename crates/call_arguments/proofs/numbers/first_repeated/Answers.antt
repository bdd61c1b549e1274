use Rattle.std.proofs.Common.{◌≡◌, Bool, true, false, nat_cmp, not, take, get_or, refl, sym, ap, ◌∙◌}
use Rattle.std.proofs.lemmas.List.{get_or_default}
use Rattle.std.specs.BTreeSet.{contains}
use Rattle.call_arguments.specs.Numbers.{is_among}
use Rattle.call_arguments.proofs.ArgumentLists.{again_later, seen_more, take_next}
use Rattle.call_arguments.proofs.numbers.first_repeated.Goals as goal

absent : (old added : Bool) → added ≡ not old → added ≡ true → old ≡ false
absent true added e is = sym is ∙ e
absent false added e is = refl

pub loop-number-preserved : goal.loop-number-preserved
loop-number-preserved c =
    let ns = c.args.numbers.now in
    let i = c.loop-number.number-index in
    let x = get_or ns i 0 in
    let at = get_or_default ns i 0 x c.loop-number-test.true in
    let inv = c.loop-number.invariant in
    let next = take_next ns i x c.loop-number-test.true at in
    let new : is_among (take i ns) x ≡ false = sym (inv.seen x) ∙ absent (contains nat_cmp c.loop-number.seen x) c.in_ok-insert.field-0 c.in_ok-insert.ensures.added c.if-not-branch.false in
    record {
      rest = sym (again_later ns i x c.loop-number-test.true at new) ∙ inv.rest;
      seen = λ n. seen_more (take i ns) x n (contains nat_cmp c.loop-number.seen n) (contains nat_cmp c.insert.new.self n) (inv.seen n) (c.in_ok-insert.ensures.updates.0 n) ∙ ap (λ qs. is_among qs n) (sym next);
    }
