use Rattle.std.proofs.Common.{◌≡◌, ◌≤◌, drop, length}
use Rattle.world_laws.specs.host_data.View.{fields_of, named_trees}
use Rattle.world_laws.specs.turn_records.Views.{payout_views}
use Rattle.world_laws.specs.world_state.Worlds.{payout_fields}
use Rattle.register_effects.proofs.beside_seats.payment_fields.Given as goal

abbrev pub invariant-loop-left : goal.invariant-loop-left
invariant-loop-left l = (l.left ≤ length l.payouts) × (fields_of (named_trees l.fields.items) ≡ payout_fields (payout_views (drop l.left l.payouts)))

abbrev pub decreases-loop-left : goal.decreases-loop-left
decreases-loop-left l = l.left
