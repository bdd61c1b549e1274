use Rattle.world_laws.proofs.Fronts.{front-after, front-after_all}
use Rattle.world_laws.proofs.laws.good_effects_keep_the_turns_delivery.Goals as goal

pub returns : goal.returns
returns c = record { one = front-after; all = front-after_all }
