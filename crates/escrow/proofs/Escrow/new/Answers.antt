use Rattle.escrow.proofs.Tellings.{sums_started}
use Rattle.escrow.proofs.Escrow.new.Goals as goal

pub returns-clause-sums : goal.returns-clause-sums
returns-clause-sums c = rw (c.new.ensures.empty, c.new-2.ensures.empty, c.new-3.ensures.items) sums_started
