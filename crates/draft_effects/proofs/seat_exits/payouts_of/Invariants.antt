use Rattle.std.proofs.Common.{◌≡◌, ◌+◌, ◌++◌, drop}
use Rattle.draft_reads.specs.turn_records.Views.{payout_views}
use Rattle.draft_reads.specs.world_state.Worlds.{payouts_from}
use Rattle.draft_effects.proofs.seat_exits.payouts_of.Given as goal

abbrev pub invariant-loop-share : goal.invariant-loop-share
invariant-loop-share l = (l.payment ≡ l.fn.first + l.share-index) × (payout_views l.payouts.items ++ payouts_from l.payment (drop l.share-index l.shares) ≡ payouts_from l.fn.first l.shares)
