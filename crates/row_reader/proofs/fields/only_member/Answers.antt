use Rattle.std.proofs.Common.{sym, ◌∙◌}
use Rattle.row_reader.proofs.Wanted.{not_one}
use Rattle.row_reader.proofs.fields.only_member.Goals as goal

pub returns-then-len-ne1 : goal.returns-then-len-ne1
returns-then-len-ne1 c = not_one _ c.in_ok-members.members.now.entries c.in_ok-members.ensures (λ one. c.if-len-ne1.true (c.len.ensures.len ∙ one))
