use Rattle.rights_model.proofs.TableLaws.{through_hand}
use Rattle.rights_model.proofs.laws.hand_is_passed.Goals as goal

pub returns : goal.returns
returns g c = through_hand g.before c.args.step.now.from c.args.step.now.to c.args.step.now.brand c.args.step.now.value
