use Rattle.std.proofs.Common.{◌∙◌}
use Rattle.host_io.proofs.LineReads.{text_is}
use Rattle.host_io.proofs.line_reader.text_length.Goals as goal

pub returns : goal.returns
returns c = c.unwrap_or.ensures ∙ text_is _ _ c.first_feed.ensures
