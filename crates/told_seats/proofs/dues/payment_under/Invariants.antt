use Rattle.std.proofs.Common.{◌≡◌, drop, map}
use Rattle.row_records.specs.Views.{payout_view}
use Rattle.row_records.specs.fair_rows.Rows.{payment_under}
use Rattle.told_seats.proofs.dues.payment_under.Given as goal

abbrev pub invariant-loop-payout : goal.invariant-loop-payout
invariant-loop-payout l = payment_under l.keyword (map payout_view (drop l.payout-index l.payouts)) ≡ payment_under l.keyword (map payout_view l.payouts)
