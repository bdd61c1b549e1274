use Rattle.run_laws.proofs.Licences.{runs_mint}
use Rattle.run_laws.proofs.run_licences.runs_mint_where_it_is_called_for.Goals as goal

pub returns : goal.returns
returns c = record { each = runs_mint }
