use Rattle.run_laws.proofs.Licences.{runs_licensed}
use Rattle.run_laws.proofs.run_licences.runs_are_licensed.Goals as goal

pub returns : goal.returns
returns c = record { each = runs_licensed }
