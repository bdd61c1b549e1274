use Rattle.rights_model.proofs.SupplyLaws.{balanced_after}
use Rattle.rights_model.proofs.laws.movements_balance.Goals as goal

pub returns : goal.returns
returns g c = balanced_after c.args.movements.now g.kind_of c.requires.0 c.requires.1.0 c.requires.1.1
