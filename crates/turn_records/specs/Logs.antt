-- What contracts see of a turn's log.
use Rattle.std.specs.Prelude.{List}
use Rattle.turn_records.specs.Views.{event_views}
use Rattle.turn_records.specs.declared.log.Log.{Log}
use Rattle.turn_records.specs.Events.{Event}

-- what has happened, in order
abbrev pub log_of : Log → List Event
log_of l = event_views l.events.items
