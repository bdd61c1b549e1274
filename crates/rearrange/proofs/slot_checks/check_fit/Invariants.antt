use Rattle.std.proofs.Common.{◌≡◌, drop}
use Rattle.rearrange.specs.Slots.{each_passes, fits_slot}
use Rattle.rearrange.proofs.slot_checks.check_fit.Given as goal

abbrev pub invariant-loop-share : goal.invariant-loop-share
invariant-loop-share l = each_passes (fits_slot l.slots) (drop l.share-index l.gains) ≡ each_passes (fits_slot l.slots) l.gains
