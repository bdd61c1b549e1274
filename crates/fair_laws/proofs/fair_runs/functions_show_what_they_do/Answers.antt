use Rattle.fair_laws.proofs.Runs.{run_is_shown}
use Rattle.fair_laws.proofs.fair_runs.functions_show_what_they_do.Goals as goal

pub returns : goal.returns
returns c = record { shown = run_is_shown }
