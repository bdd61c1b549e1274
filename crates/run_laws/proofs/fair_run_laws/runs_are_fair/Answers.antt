use Rattle.run_laws.proofs.RunsFair.{run_fair, run_little, run_strict}
use Rattle.run_laws.proofs.fair_run_laws.runs_are_fair.Goals as goal

pub returns-clause-fair : goal.returns-clause-fair
returns-clause-fair c = λ read meter most input gives few. run_fair read gives meter most input few

pub returns-clause-strict : goal.returns-clause-strict
returns-clause-strict c = λ read meter most input gives few. run_strict read gives meter most input few

pub returns-clause-little : goal.returns-clause-little
returns-clause-little c = λ read meter most input gives few. run_little read gives meter most input few
