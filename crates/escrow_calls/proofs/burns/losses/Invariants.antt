use Rattle.std.proofs.Common.{◌≡◌, map, take}
use Rattle.rules.specs.Zmint.{loss}
use Rattle.escrow_calls.proofs.burns.losses.Given as goal

abbrev pub invariant-loop-share : goal.invariant-loop-share
invariant-loop-share l = l.moves.items ≡ map (loss l.seat) (take l.share-index l.shares)
