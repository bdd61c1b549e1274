use Rattle.fair_rows.proofs.Steps.{stay_fair, steps_are_fair}
use Rattle.fair_rows.proofs.laws.turns_stay_fair.Goals as goal

pub returns-clause-steps : goal.returns-clause-steps
returns-clause-steps c = steps_are_fair

pub returns-clause-turns : goal.returns-clause-turns
returns-clause-turns c = stay_fair
