use Rattle.world_laws.proofs.First.{first_is_good}
use Rattle.world_laws.proofs.laws.a_new_world_is_good.Goals as goal

pub returns : goal.returns
returns c = record { good = first_is_good }
