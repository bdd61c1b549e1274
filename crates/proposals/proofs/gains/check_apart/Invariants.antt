use Rattle.std.proofs.Common.{All, take}
use Rattle.proposals.specs.Gains.{IsApart}
use Rattle.proposals.proofs.gains.check_apart.Given as goal

abbrev pub invariant-loop-share : goal.invariant-loop-share
invariant-loop-share l = All (IsApart l.slots) (take l.share-index l.gains)
