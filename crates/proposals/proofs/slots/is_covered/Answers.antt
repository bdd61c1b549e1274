use Rattle.std.proofs.Common.{sym}
use Rattle.proposals.proofs.Coverings.{covered_without_slot}
use Rattle.proposals.proofs.slots.is_covered.Goals as goal

pub returns-in-None : goal.returns-in-None
returns-in-None c = covered_without_slot c.args.slots.now c.args.share.now _ (sym c.in-None.ensures) c.is_empty.ensures
