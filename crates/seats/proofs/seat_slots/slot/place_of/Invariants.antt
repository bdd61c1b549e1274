use Rattle.std.proofs.Common.{◌≡◌, ◌+◌, drop}
use Rattle.seats.specs.Slots.{place_of}
use Rattle.seats.proofs.seat_slots.slot.place_of.Given as goal

abbrev pub invariant-loop-place : goal.invariant-loop-place
invariant-loop-place l = place_of l.keyword l.slots ≡ l.place + place_of l.keyword (drop l.place l.slots)
