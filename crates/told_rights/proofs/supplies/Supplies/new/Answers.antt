use Rattle.told_rights.proofs.Noting.{none_bounded}
use Rattle.told_rights.proofs.supplies.Supplies.new.Goals as goal

pub returns-clause-bounded : goal.returns-clause-bounded
returns-clause-bounded c = none_bounded _ c.new.ensures.empty c.new-2.ensures.empty
