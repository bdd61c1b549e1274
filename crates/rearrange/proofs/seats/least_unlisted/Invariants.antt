use Rattle.std.proofs.Common.{◌≡◌, drop}
use Rattle.rearrange.specs.Seats.{is_left_out, least, least_of, seats_such}
use Rattle.rearrange.proofs.seats.least_unlisted.Given as goal

abbrev pub invariant-loop-state : goal.invariant-loop-state
invariant-loop-state l = least_of l.least (least (seats_such (is_left_out l.instance l.sorted) (drop l.state-index l.states))) ≡ least (seats_such (is_left_out l.instance l.sorted) l.states)
