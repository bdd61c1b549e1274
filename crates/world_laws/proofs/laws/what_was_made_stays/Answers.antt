use Rattle.world_laws.proofs.Growing.{grows-after}
use Rattle.world_laws.proofs.laws.what_was_made_stays.Goals as goal

pub returns : goal.returns
returns c = record { grows = grows-after }
