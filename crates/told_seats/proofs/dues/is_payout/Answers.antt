use Rattle.std.proofs.Common.{◌≡◌, refl, arith}
use Rattle.row_records.specs.Views.{move_view}
use Rattle.told_seats.proofs.DueTests.{payout_is}
use Rattle.told_seats.specs.SlotViews.{slot_view}
use Rattle.told_seats.proofs.dues.is_payout.Goals as goal

pub returns : goal.returns
returns c = λ e form i t.
    let brand : c.args.row.now.brand ≡ c.args.due.now.slot.brand = omega arith in
    payout_is i.now.moves c.args.due.now.seat (slot_view c.args.due.now.slot) c.args.due.now.contents c.args.due.now.payment (move_view c.args.row.now) c.is.result
    brand (c.if-not-is_slot.ensures.0 refl) ((c.if-not-pays_new.ensures i t).0 refl) (c.is.ensures.content e form)
