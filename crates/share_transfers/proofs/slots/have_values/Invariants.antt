use Rattle.std.specs.List.{All}
use Rattle.std.proofs.Common.{take}
use Rattle.rearrange.specs.Bounds.{HasValue}
use Rattle.share_transfers.proofs.slots.have_values.Given as goal

abbrev pub invariant-loop-share : goal.invariant-loop-share
invariant-loop-share l = All HasValue (take l.share-index l.shares)
