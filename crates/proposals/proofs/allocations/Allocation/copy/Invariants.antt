use Rattle.std.proofs.Common.{◌≡◌, take}
use Rattle.proposals.proofs.allocations.Allocation.copy.Given as goal

abbrev pub invariant-loop-share : goal.invariant-loop-share
invariant-loop-share l = l.made ≡ take l.share-index l.share-items
