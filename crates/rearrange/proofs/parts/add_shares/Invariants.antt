use Rattle.std.proofs.Common.{take}
use Rattle.rearrange.specs.Parts.{HaveMore}
use Rattle.rearrange.specs.Sums.{shares_count}
use Rattle.rearrange.proofs.parts.add_shares.Given as goal

abbrev pub invariant-loop-share : goal.invariant-loop-share
invariant-loop-share l = HaveMore l.side (λ x. shares_count x.0 x.1 (take l.share-index l.shares)) l.initial.parts.items l.parts.items
