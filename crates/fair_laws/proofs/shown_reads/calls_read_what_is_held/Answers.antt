use Rattle.fair_laws.proofs.HeldReads.{calls_read}
use Rattle.fair_laws.proofs.shown_reads.calls_read_what_is_held.Goals as goal

pub returns : goal.returns
returns c = calls_read
