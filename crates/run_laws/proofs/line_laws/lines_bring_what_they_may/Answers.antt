use Rattle.run_laws.proofs.FormedLines.{line_is_line}
use Rattle.run_laws.proofs.line_laws.lines_bring_what_they_may.Goals as goal

pub returns : goal.returns
returns c = record { line = line_is_line }
