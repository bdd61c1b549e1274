use Rattle.std.proofs.Common.{◌≡◌, ◌++◌, take, string_bytes}
use Rattle.std.specs.List.{All, flat_map}
use Rattle.turn_rows.specs.Rows.{event_row}
use Rattle.turn_records.specs.Printed.{printed_event}
use Rattle.turn_records.specs.Views.{event_view}
use Rattle.turn_writer.specs.ShortRows.{IsShortRow}
use Rattle.turn_writer.proofs.MoreRows.{told_text}
use Rattle.turn_writer.proofs.push_events.Given as goal

abbrev pub invariant-loop-event : goal.invariant-loop-event
invariant-loop-event l = record {
  adds : string_bytes l.text ≡ string_bytes l.fn.text ++ flat_map told_text (take l.event-index l.events);
  short : All (λ e. IsShortRow (event_row (printed_event (event_view e)))) (take l.event-index l.events);
}
