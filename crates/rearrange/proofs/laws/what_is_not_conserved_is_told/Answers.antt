use Rattle.rearrange.proofs.TestedConservation.{conserved_if, if_conserved}
use Rattle.rearrange.proofs.laws.what_is_not_conserved_is_told.Goals as goal

pub returns : goal.returns
returns c = record { conserved = λ touched. (conserved_if touched, if_conserved touched) }
