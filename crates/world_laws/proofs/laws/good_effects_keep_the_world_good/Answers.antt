use Rattle.world_laws.proofs.Kept.{good-after, good-after_all}
use Rattle.world_laws.proofs.laws.good_effects_keep_the_world_good.Goals as goal

pub returns : goal.returns
returns c = record { one = good-after; all = good-after_all }
