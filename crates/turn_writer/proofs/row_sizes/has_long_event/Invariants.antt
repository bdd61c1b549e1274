use Rattle.std.proofs.Common.{◌≡◌, drop}
use Rattle.std.specs.List.{list_any}
use Rattle.turn_records.specs.Views.{event_views}
use Rattle.turn_writer.specs.ShortRows.{is_long_event}
use Rattle.turn_writer.proofs.row_sizes.has_long_event.Given as goal

abbrev pub invariant-loop-event : goal.invariant-loop-event
invariant-loop-event l = list_any is_long_event (event_views l.events) ≡ list_any is_long_event (event_views (drop l.event-index l.events))
