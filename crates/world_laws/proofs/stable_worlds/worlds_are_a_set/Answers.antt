use Rattle.world_laws.proofs.States.{State-set}
use Rattle.world_laws.proofs.stable_worlds.worlds_are_a_set.Goals as goal

pub returns : goal.returns
returns c = State-set
