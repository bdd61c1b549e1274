use Rattle.std.proofs.Common.{All, take}
use Rattle.proposals.specs.OfferSafety.{IsCovered}
use Rattle.proposals.proofs.slots.covers.Given as goal

abbrev pub invariant-loop-share : goal.invariant-loop-share
invariant-loop-share l = All (IsCovered l.slots) (take l.share-index l.shares)
