use Rattle.fair_samples.proofs.Balance.{stores_add_up}
use Rattle.fair_samples.proofs.laws.stores_add_up.Goals as goal

pub returns : goal.returns
returns c = stores_add_up
