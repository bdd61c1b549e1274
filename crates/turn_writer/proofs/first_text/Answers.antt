use Rattle.std.proofs.Common.{subst}
use Rattle.turn_writer.specs.JsonRows.{IsText}
use Rattle.turn_writer.proofs.FirstRows.{version}
use Rattle.turn_writer.proofs.first_text.Goals as goal

pub returns-in-Second : goal.returns-in-Second
returns-in-Second c = subst (λ bytes. IsText c.from_str.result bytes) (version c.args.edition c.args.before c.in-Second.is c.if-before-ne0.false) c.from_str.ensures.ok
