use Rattle.std.proofs.Common.{All, take}
use Rattle.proposals.specs.Gains.{CanGain}
use Rattle.proposals.proofs.gains.check_sums.Given as goal

abbrev pub invariant-loop-share : goal.invariant-loop-share
invariant-loop-share l = All (CanGain l.slots) (take l.share-index l.gains)
