use Rattle.licence_laws.proofs.Hosts.{steps_mint}
use Rattle.licence_laws.proofs.supply_laws.steps_mint_where_it_is_called_for.Goals as goal

pub returns : goal.returns
returns c = record { step = steps_mint }
