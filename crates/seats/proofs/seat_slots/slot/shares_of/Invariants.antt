use Rattle.std.proofs.Common.{◌≡◌, take}
use Rattle.seats.specs.Slots.{shares_in}
use Rattle.seats.proofs.seat_slots.slot.shares_of.Given as goal

abbrev pub invariant-loop-slot : goal.invariant-loop-slot
invariant-loop-slot l = l.shares.items ≡ shares_in (take l.slot-index l.slots)
