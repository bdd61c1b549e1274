use Rattle.contract_reads.proofs.Allocated.{as_well, open_allocation}
use Rattle.contract_reads.proofs.contract_words.allocations.current_allocation.Goals as goal

pub returns : goal.returns
returns c = as_well c.allocation.result _ _ (open_allocation c.seats.result.now.seats _ c.args.seat c.seats.ensures.seats c.requires.made c.requires.«open») c.allocation.ensures
