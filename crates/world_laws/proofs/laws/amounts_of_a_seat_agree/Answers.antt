use Rattle.world_laws.proofs.Agreed.{give_meets, seat_agrees, want_meets}
use Rattle.world_laws.proofs.laws.amounts_of_a_seat_agree.Goals as goal

pub returns : goal.returns
returns c = record { agree = seat_agrees; want = want_meets; give = give_meets }
