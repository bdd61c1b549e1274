use Rattle.std.proofs.Common.{◌∙◌}
use Rattle.told_rights.proofs.Ends.{due_told}
use Rattle.told_rights.proofs.rights.Rights.due_sum.Goals as goal

pub returns : goal.returns
returns c = λ i t. c.due.ensures ∙ due_told c.args.self.now i t c.args.told
