use Rattle.host_turns.proofs.SeatNumbers.{log_told, seats_told}
use Rattle.host_turns.proofs.turn_sums.laws.good_effects_can_be_told.Goals as goal

pub returns : goal.returns
returns c = record { turn = log_told; seats = seats_told }
