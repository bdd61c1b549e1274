use Rattle.std.proofs.Common.{sym, ◌∙◌}
use Rattle.message_lines.proofs.OnlyMembers.{only_text-other, only_text-one}
use Rattle.message_lines.proofs.arguments.only_text.Goals as goal

pub returns-then-len-ne1 : goal.returns-then-len-ne1
returns-then-len-ne1 c = sym (only_text-other c.args.name.now c.args.members.now.entries (λ one. c.if-len-ne1.true (c.len.ensures.len ∙ one)))

pub returns-in_err-member : goal.returns-in_err-member
returns-in_err-member c =
    rw (c.from_residual.ensures, only_text-one c.args.name.now c.args.members.now.entries (sym c.len.ensures.len ∙ c.if-len-ne1.false), ← c.in_err-member.ensures)

pub returns : goal.returns
returns c =
    rw (only_text-one c.args.name.now c.args.members.now.entries (sym c.len.ensures.len ∙ c.if-len-ne1.false), ← c.in_ok-member.ensures) c.as_str.ensures
