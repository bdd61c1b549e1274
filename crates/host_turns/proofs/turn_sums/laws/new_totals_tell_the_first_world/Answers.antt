use Rattle.host_turns.proofs.SeatNumbers.{first_told}
use Rattle.host_turns.proofs.turn_sums.laws.new_totals_tell_the_first_world.Goals as goal

pub returns : goal.returns
returns c = first_told
