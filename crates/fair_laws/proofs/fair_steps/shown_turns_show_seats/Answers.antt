use Rattle.fair_laws.proofs.StepSeats.{shows_seats}
use Rattle.fair_laws.proofs.fair_steps.shown_turns_show_seats.Goals as goal

pub returns : goal.returns
returns c = record { seats = shows_seats }
