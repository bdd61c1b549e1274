use Rattle.std.proofs.Common.{sym, ◌∙◌}
use Rattle.row_reader.proofs.Arguments.{far_call}
use Rattle.row_reader.proofs.delivered.is_called.Goals as goal

pub returns-then-eq : goal.returns-then-eq
returns-then-eq c =
    rw c.in-Far.is (far_call c.args.on.now c.args.method.now c.args.arguments.now (sym c.eq.ensures ∙ c.if-eq.true) c.utf8.method)
