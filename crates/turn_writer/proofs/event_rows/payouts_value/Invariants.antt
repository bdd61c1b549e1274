use Rattle.std.proofs.Common.{◌≡◌, ◌≤◌, drop, length}
use Rattle.serde_json.specs.View.{members_view}
use Rattle.turn_rows.specs.Rows.{payouts_json}
use Rattle.turn_records.specs.Printed.{printed_payouts}
use Rattle.turn_records.specs.Views.{payout_views}
use Rattle.turn_writer.proofs.event_rows.payouts_value.Given as goal

abbrev pub invariant-loop-left : goal.invariant-loop-left
invariant-loop-left l = record {
  within : l.left ≤ length l.payouts;
  put : members_view l.values.entries ≡ payouts_json (printed_payouts (payout_views (drop l.left l.payouts)));
}

abbrev pub decreases-loop-left : goal.decreases-loop-left
decreases-loop-left l = l.left
