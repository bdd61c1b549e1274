use Rattle.world_laws.proofs.Worlds.{stable_world}
use Rattle.world_laws.proofs.stable_worlds.good_worlds_are_stable.Goals as goal

pub returns : goal.returns
returns c = stable_world
