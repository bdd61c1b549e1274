use Rattle.std.proofs.Common.{◌≡◌, ◌≤◌, drop, length}
use Rattle.serde_json.specs.View.{members_view}
use Rattle.turn_rows.specs.Rows.{amounts_json}
use Rattle.turn_records.specs.Printed.{printed_shares}
use Rattle.turn_writer.proofs.event_rows.amounts_value.Given as goal

abbrev pub invariant-loop-left : goal.invariant-loop-left
invariant-loop-left l = record {
  within : l.left ≤ length l.shares;
  put : members_view l.values.entries ≡ amounts_json (printed_shares (drop l.left l.shares));
}

abbrev pub decreases-loop-left : goal.decreases-loop-left
decreases-loop-left l = l.left
