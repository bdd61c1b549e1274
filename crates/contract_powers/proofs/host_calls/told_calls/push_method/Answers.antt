use Rattle.std.proofs.Common.{◌∙◌, ap}
use Rattle.refusals.specs.host_data.View.{named_trees}
use Rattle.contract_powers.proofs.Methods.{pushed}
use Rattle.contract_powers.proofs.host_calls.told_calls.push_method.Goals as goal

pub returns : goal.returns
returns c = ap named_trees c.in_ok-push.ensures.items ∙ pushed c.args.made.now.items c.args.method c.args.function
