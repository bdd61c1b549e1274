use Rattle.std.proofs.Common.{◌≡◌, map, take}
use Rattle.rearrange.specs.Settled.{filled}
use Rattle.rearrange.proofs.settled.all_filled.Given as goal

abbrev pub invariant-loop-slot : goal.invariant-loop-slot
invariant-loop-slot l = l.after.items ≡ map (filled l.shares) (take l.slot-index l.slots)
