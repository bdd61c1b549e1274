use Rattle.run_laws.proofs.RunsFair.{run_prints}
use Rattle.run_laws.proofs.fair_run_laws.turns_of_runs_can_be_printed.Goals as goal

pub returns : goal.returns
returns c = record { prints = λ read meter most input gives few. run_prints read gives meter most input few }
