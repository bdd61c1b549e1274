use Rattle.std.proofs.Common.{◌≡◌, map, take}
use Rattle.proposals.specs.Losses.{lowered}
use Rattle.proposals.proofs.losses.lowered_slots.Given as goal

abbrev pub invariant-loop-slot : goal.invariant-loop-slot
invariant-loop-slot l = l.after.items ≡ map (lowered l.shares) (take l.slot-index l.slots)
