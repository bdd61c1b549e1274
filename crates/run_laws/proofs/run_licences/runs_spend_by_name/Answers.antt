use Rattle.run_laws.proofs.Licences.{runs_spend}
use Rattle.run_laws.proofs.run_licences.runs_spend_by_name.Goals as goal

pub returns : goal.returns
returns c = record { each = runs_spend }
