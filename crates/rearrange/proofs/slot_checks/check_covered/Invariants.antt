use Rattle.std.proofs.Common.{◌≡◌, drop}
use Rattle.rearrange.specs.Slots.{each_passes}
use Rattle.rearrange.specs.Covered.{takes_share}
use Rattle.rearrange.proofs.slot_checks.check_covered.Given as goal

abbrev pub invariant-loop-share : goal.invariant-loop-share
invariant-loop-share l = each_passes (takes_share l.slots) (drop l.share-index l.losses) ≡ each_passes (takes_share l.slots) l.losses
