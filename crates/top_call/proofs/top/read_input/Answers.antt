use Rattle.std.proofs.Common.{◌≡◌, true, sym, ap, ◌∙◌, Err}
use Rattle.run_laws.specs.message_lines.InputLines.{is_too_long}
use Rattle.top_call.proofs.Limits.{longer, within}
use Rattle.top_call.proofs.Statuses.{known, weaker}
use Rattle.top_call.proofs.top.read_input.Goals as goal

pub returns-in-Err-TooLong-clause-why : goal.returns-in-Err-TooLong-clause-why
returns-in-Err-TooLong-clause-why g c = record {
  long = weaker _ _ _ longer (c.in-Err-TooLong.ensures.too_long (ap Err c.in-Err-TooLong.field-0-is));
  quiet = c.in-Err-TooLong.ensures.quiet (λ e. cc (c.in-Err-TooLong.field-0-is, e));
}

pub returns-then-has_long_line-clause-why : goal.returns-then-has_long_line-clause-why
returns-then-has_long_line-clause-why g c =
    let long : is_too_long c.in-Ok.input.items ≡ true = within _ c.in-Ok.ensures.within ∙ sym (rw (c.if-has_long_line.true, c.deref.ensures.value) at c.has_long_line.ensures) in
    record {
      long = known (λ input. is_too_long input ≡ true) _ _ c.in-Ok.ensures.all long;
      quiet = c.in-Ok.ensures.quiet (λ e. cc e);
    }

pub returns-clause-short : goal.returns-clause-short
returns-clause-short g c = within _ c.in-Ok.ensures.within ∙ sym (rw (c.if-has_long_line.false, c.deref.ensures.value) at c.has_long_line.ensures)
