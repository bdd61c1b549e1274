use Rattle.std.proofs.Common.{◌≡◌, map, take}
use Rattle.seats.specs.Slots.{empty_slot}
use Rattle.seats.proofs.seat_slots.slot.empty_slots.Given as goal

abbrev pub invariant-loop-share : goal.invariant-loop-share
invariant-loop-share l = l.slots.items ≡ map empty_slot (take l.share-index l.shares)
