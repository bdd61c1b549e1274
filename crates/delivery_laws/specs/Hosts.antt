-- What holds of a host between its calls.
use Rattle.std.specs.Prelude.{◌≡◌, ◌≤◌, []}
use Rattle.delivery_turns.specs.Hosts.{HostState}
use Rattle.delivery_turns.specs.world_state.Good.{IsGoodWorld}
use Rattle.delivery_laws.specs.Works.{most_meter}

-- its functions may cost so much at most; its world is good; nothing was told yet of the next turn
pub record IsGoodHost (s : HostState) : Type 0 where
  pub meter : s.meter ≤ most_meter
  pub world : IsGoodWorld s.world
  pub untold : s.world.log ≡ []
