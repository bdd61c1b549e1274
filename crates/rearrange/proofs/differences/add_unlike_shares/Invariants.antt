use Rattle.std.proofs.Common.{◌++◌, take}
use Rattle.rearrange.specs.Parts.{HaveShares}
use Rattle.rearrange.proofs.differences.add_unlike_shares.Given as goal

abbrev pub invariant-loop-share : goal.invariant-loop-share
invariant-loop-share l = HaveShares (take l.share-index l.before ++ l.rest) l.after l.initial.parts.items l.parts.items
