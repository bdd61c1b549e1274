use Rattle.fair_rows.proofs.Steps.{stay_strict, steps_are_strict}
use Rattle.fair_rows.proofs.laws.turns_stay_strict.Goals as goal

pub returns-clause-steps : goal.returns-clause-steps
returns-clause-steps c = steps_are_strict

pub returns-clause-turns : goal.returns-clause-turns
returns-clause-turns c = stay_strict
