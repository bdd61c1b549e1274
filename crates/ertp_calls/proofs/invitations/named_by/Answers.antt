use Rattle.std.proofs.Common.{sym, ◌∙◌, refl, arith}
use Rattle.ertp_calls.proofs.Elements.{late_named, named_found, none_named}
use Rattle.ertp_calls.proofs.invitations.named_by.Goals as goal

pub returns-in_err-number-clause-is : goal.returns-in_err-number-clause-is
returns-in_err-number-clause-is c =
    c.from_residual.ensures ∙ sym (none_named c.args.made c.args.key.now _ (omega arith) (λ m low is. c.in_err-number.ensures.all m low (c.as_bytes.ensures.value ∙ is)) refl)

pub returns-then-number-made-clause-is : goal.returns-then-number-made-clause-is
returns-then-number-made-clause-is c =
    sym (named_found c.args.made c.in_ok-number.number c.args.key.now (omega arith) c.if-number-made.true (sym c.as_bytes.ensures.value ∙ c.in_ok-number.ensures.found))

pub returns-else-number-made-clause-is : goal.returns-else-number-made-clause-is
returns-else-number-made-clause-is c =
    sym (late_named c.args.made c.args.key.now _ (omega arith) (λ m low is. c.in_ok-number.ensures.all m low (c.as_bytes.ensures.value ∙ is)) c.in_ok-number.number refl c.if-number-made.false)
