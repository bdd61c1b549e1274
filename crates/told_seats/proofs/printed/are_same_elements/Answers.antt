use Rattle.std.proofs.Common.{◌≡◌, ◌<◌, true, false, length, ap, sym, ◌∙◌, arith}
use Rattle.row_records.specs.Views.{element_view}
use Rattle.told_seats.proofs.SlotLists.{differ_at}
use Rattle.told_seats.proofs.printed.are_same_elements.Goals as goal

pub returns-then-not-is_same_element : goal.returns-then-not-is_same_element
returns-then-not-is_same_element c =
    let in_ys : c.loop-i.i < length c.args.ys.now = omega arith in (
      λ h. absurd (cc),
      λ same. absurd
          (differ_at element_view c.args.xs.now c.args.ys.now c.loop-i.i c.index-xs-i.result c.index-ys-i.result c.loop-i-test.true in_ys
          (λ same_view.
          let yes : c.is_same_element.result ≡ true = c.is_same_element.ensures.1 (ap element_view c.index-xs-i.is ∙ same_view ∙ ap element_view (sym c.index-ys-i.is)) in
          let clash : true ≡ false = sym yes ∙ c.if-not-is_same_element.true in absurd (cc))
          same),
    )
