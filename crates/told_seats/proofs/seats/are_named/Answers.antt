use Rattle.std.proofs.Common.{◌≡◌, ◌≤◌, true, false, length, refl, sym, ap, ◌∙◌, arith, inl, inr}
use Rattle.row_records.specs.Views.{payout_view}
use Rattle.told_seats.proofs.SlotLists.{all_at}
use Rattle.std.proofs.Common.{is_some}
use Rattle.row_records.specs.fair_rows.Rows.{payment_under}
use Rattle.row_records.specs.fair_rows.Seats.{SlotName}
use Rattle.told_seats.specs.SlotViews.{slot_view}
use Rattle.told_seats.proofs.seats.are_named.Goals as goal

pub returns-in-None : goal.returns-in-None
returns-in-None c = (
  λ h. absurd (cc),
  λ all. ap is_some c.in-None.ensures
      ∙ all_at (λ (s : SlotName). is_some (payment_under s.keyword (Rattle.std.proofs.Common.map payout_view c.args.payouts.now)) ≡ true) slot_view c.args.slots.now c.loop-slot.slot-index c.slot-item.result c.loop-slot-test.true c.slot-item.is all,
)
