use Rattle.std.proofs.Common.{sym}
use Rattle.host_text.proofs.Ascii.{IsUtf8-is_keyword}
use Rattle.host_text.proofs.keyword.Keyword.read.Goals as goal

pub unreachable-requires : goal.unreachable-requires
unreachable-requires c = c.in_default.ensures.cases.0 (IsUtf8-is_keyword c.args.bytes.now (sym c.if-not-is_keyword.ensures))
