use Rattle.std.proofs.Common.{◌≡◌, drop}
use Rattle.rearrange.specs.Seats.{is_repeated, least_of, least_such}
use Rattle.rearrange.proofs.seats.least_counted.Given as goal

abbrev pub invariant-loop-seat : goal.invariant-loop-seat
invariant-loop-seat l = least_of l.least (least_such (is_repeated l.sorted) (drop l.seat-index l.seats)) ≡ least_such (is_repeated l.sorted) l.seats
