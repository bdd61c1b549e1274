use Rattle.std.proofs.Common.{◌≡◌, ◌+◌, ◌++◌, drop}
use Rattle.draft_reads.specs.world_state.Worlds.{payout_moves}
use Rattle.draft_effects.proofs.seat_exits.moves_out.Given as goal

abbrev pub invariant-loop-share : goal.invariant-loop-share
invariant-loop-share l = (l.next ≡ l.fn.first + l.share-index) × (l.moves.items ++ payout_moves l.seat l.next (drop l.share-index l.shares) ≡ payout_moves l.seat l.fn.first l.shares)
