use Rattle.std.proofs.Common.{◌≡◌, map, take}
use Rattle.rules.specs.Zmint.{gain}
use Rattle.escrow_calls.proofs.mints.gains.Given as goal

abbrev pub invariant-loop-share : goal.invariant-loop-share
invariant-loop-share l = l.moves.items ≡ map (gain l.seat) (take l.share-index l.shares)
