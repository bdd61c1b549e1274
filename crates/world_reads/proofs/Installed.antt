-- The installation of an instance was made.
use Rattle.std.proofs.Common.{ℕ, ◌<◌, length}
use Rattle.rules.specs.actors.Tables.{instance_at}
use Rattle.rules.specs.world_state.Good.{IsGoodWorld}
use Rattle.rules.specs.world_state.Worlds.{State}

pub installed_in : (w : State) (i : ℕ) → IsGoodWorld w → i < length w.tables.instances → (instance_at w.tables.instances i).installation < length w.tables.installations
installed_in w i good made = (good.instances.each i made).installed
