use Rattle.std.proofs.Common.{◌≤◌, length, refl, sym, ◌∙◌, arith}
use Rattle.row_records.specs.Views.{amount_view}
use Rattle.row_records.specs.turn_rows.Form.{HasAmountForm}
use Rattle.row_records.specs.fair_rows.Seats.{IsCovered}
use Rattle.told_seats.proofs.SlotLists.{all_at, all_end, all_more}
use Rattle.told_seats.proofs.covered.are_covered.Goals as goal

pub returns-then-not-branch : goal.returns-then-not-branch
returns-then-not-branch c = λ e forms i t.
    let form = all_at (HasAmountForm e) amount_view c.args.amounts.now c.loop-amount.amount-index c.amount-item.result c.loop-amount-test.true c.amount-item.is forms in (
      λ h. absurd (cc),
      λ all. sym c.if-not-branch.true
          ∙ (c.in_ok-is_covered.ensures e form i t).1 (all_at (IsCovered i.now.table c.args.seat) amount_view c.args.amounts.now c.loop-amount.amount-index c.amount-item.result c.loop-amount-test.true c.amount-item.is all),
    )

pub loop-amount-preserved : goal.loop-amount-preserved
loop-amount-preserved c = λ e forms i t.
    let form = all_at (HasAmountForm e) amount_view c.args.amounts.now c.loop-amount.amount-index c.amount-item.result c.loop-amount-test.true c.amount-item.is forms in
    all_more (IsCovered i.now.table c.args.seat) amount_view c.args.amounts.now c.loop-amount.amount-index c.amount-item.result c.loop-amount-test.true c.amount-item.is (c.loop-amount.invariant e forms i t)
    ((c.in_ok-is_covered.ensures e form i t).0 c.if-not-branch.false)

pub returns : goal.returns
returns c = λ e forms i t.
    let past : length c.args.amounts.now ≤ c.loop-amount.amount-index = omega arith in
    (λ h. all_end (IsCovered i.now.table c.args.seat) amount_view c.args.amounts.now c.loop-amount.amount-index past (c.loop-amount.invariant e forms i t), λ h. refl)
