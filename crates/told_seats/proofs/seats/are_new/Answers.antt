use Rattle.std.proofs.Common.{◌≡◌, false}
use Rattle.row_records.specs.Views.{payout_view}
use Rattle.told_seats.proofs.SlotLists.{all_at}
use Rattle.row_records.specs.fair_rows.Movements.{names}
use Rattle.row_records.specs.turn_rows.Turns.{Payout}
use Rattle.told_seats.proofs.seats.are_new.Goals as goal

pub returns-then-not-is_new : goal.returns-then-not-is_new
returns-then-not-is_new c = λ i t. (
  λ h. absurd (cc),
  λ all. (c.if-not-is_new.ensures i t).1
      (all_at (λ (p : Payout). names p.payment i.now.moves ≡ false) payout_view c.args.payouts.now c.loop-payout.payout-index c.payout-item.result c.loop-payout-test.true c.payout-item.is all),
)
