use Rattle.fair_laws.proofs.HeldReads.{services_read}
use Rattle.fair_laws.proofs.shown_reads.turns_read_what_is_held.Goals as goal

pub returns : goal.returns
returns c = services_read
