use Rattle.world_laws.proofs.Agreed.{left-after}
use Rattle.world_laws.proofs.Followings.{settled-after}
use Rattle.world_laws.proofs.laws.what_was_left_or_settled_stays.Goals as goal

pub returns : goal.returns
returns c = record { left = left-after; settled = settled-after }
