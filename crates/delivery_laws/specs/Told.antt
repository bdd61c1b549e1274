-- A world in which something else was told in the turn.
use Rattle.std.specs.Prelude.{List}
use Rattle.delivery_turns.specs.turn_records.Events.{Event}
use Rattle.delivery_turns.specs.world_state.Worlds.{State}

abbrev pub with_log : List Event → State → State
with_log log w = record w { log = log }
