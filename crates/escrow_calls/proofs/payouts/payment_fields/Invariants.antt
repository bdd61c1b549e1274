use Rattle.std.proofs.Common.{◌≡◌, ◌≤◌, ◌+◌, drop, length}
use Rattle.host_data.specs.View.{fields_of, named_trees}
use Rattle.rules.specs.world_state.Worlds.{payout_fields, payouts_from}
use Rattle.escrow_calls.proofs.payouts.payment_fields.Given as goal

abbrev pub invariant-loop-left : goal.invariant-loop-left
invariant-loop-left l = record {
  within : l.left ≤ length l.shares;
  made : fields_of (named_trees l.fields.items) ≡ payout_fields (payouts_from (l.first + l.left) (drop l.left l.shares));
}

abbrev pub decreases-loop-left : goal.decreases-loop-left
decreases-loop-left l = l.left
