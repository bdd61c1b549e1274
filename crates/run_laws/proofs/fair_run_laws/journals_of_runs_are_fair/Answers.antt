use Rattle.run_laws.proofs.RunsFair.{run_journal}
use Rattle.run_laws.proofs.fair_run_laws.journals_of_runs_are_fair.Goals as goal

pub returns : goal.returns
returns c = record { journal = λ read meter most input gives few form. run_journal read gives meter most input few form }
