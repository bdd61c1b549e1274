use Rattle.std.proofs.Common.{sym}
use Rattle.host_text.proofs.Ascii.{IsUtf8-is_label}
use Rattle.host_text.proofs.label.Label.read.Goals as goal

pub unreachable-requires : goal.unreachable-requires
unreachable-requires c = c.in_default.ensures.cases.0 (IsUtf8-is_label c.args.bytes.now (sym c.if-not-is_label.ensures))
