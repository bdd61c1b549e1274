use Rattle.std.proofs.Common.{◌≡◌, drop}
use Rattle.rearrange.specs.Slots.{each_passes, is_apart}
use Rattle.rearrange.proofs.slot_checks.check_apart.Given as goal

abbrev pub invariant-loop-share : goal.invariant-loop-share
invariant-loop-share l = each_passes (is_apart l.slots) (drop l.share-index l.gains) ≡ each_passes (is_apart l.slots) l.gains
