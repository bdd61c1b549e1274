use Rattle.std.proofs.Common.{◌≡◌, ◌+◌, ◌++◌, drop}
use Rattle.rules.specs.world_state.Worlds.{payout_moves}
use Rattle.escrow_calls.proofs.payouts.payout_moves.Given as goal

abbrev pub invariant-loop-place : goal.invariant-loop-place
invariant-loop-place l = l.moves.items ++ payout_moves l.seat (l.first + l.place) (drop l.place l.shares) ≡ payout_moves l.seat l.first l.shares
