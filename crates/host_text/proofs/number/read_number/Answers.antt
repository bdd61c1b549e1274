use Rattle.std.proofs.Common.{sym, ◌∙◌}
use Rattle.host_text.proofs.Decimal.{IsUtf8-is_number, parse-number_in}
use Rattle.host_text.proofs.number.read_number.Goals as goal

pub unreachable-requires : goal.unreachable-requires
unreachable-requires c = c.in_default.ensures.cases.0 (IsUtf8-is_number c.args.bytes.now (sym c.if-not-is_number.ensures))

pub returns : goal.returns
returns c =
    c.ok.ensures.value
    ∙ parse-number_in c.args.bytes.now c.parse.result (sym c.if-not-is_number.ensures) (rw c.in-Ok.ensures.cases.0 at c.parse.ensures.value.0)
