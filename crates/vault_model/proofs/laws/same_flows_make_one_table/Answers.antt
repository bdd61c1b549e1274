use Rattle.vault_model.proofs.FlowLaws.{same_flows}
use Rattle.vault_model.proofs.laws.same_flows_make_one_table.Goals as goal

pub returns : goal.returns
returns g c = same_flows g.before c.args.written.now c.args.done.now c.requires.0 c.requires.1.0 c.requires.1.1
