use Rattle.rights_model.proofs.SupplyLaws.{conserved}
use Rattle.rights_model.proofs.laws.movements_conserve.Goals as goal

pub returns : goal.returns
returns g c = conserved g.before c.args.movements.now c.requires
