use Rattle.rights_model.proofs.TableLaws.{moved_back}
use Rattle.rights_model.proofs.laws.movement_back.Goals as goal

pub returns : goal.returns
returns g c = moved_back g.before c.args.step.now c.requires.0 c.requires.1
