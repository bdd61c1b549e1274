use Rattle.std.proofs.Common.{◌≡◌, drop}
use Rattle.rearrange.specs.Seats.{has_exited, least_of, least_such}
use Rattle.rearrange.proofs.seats.least_exited.Given as goal

abbrev pub invariant-loop-seat : goal.invariant-loop-seat
invariant-loop-seat l = least_of l.least (least_such (has_exited l.states) (drop l.seat-index l.seats)) ≡ least_such (has_exited l.states) l.seats
