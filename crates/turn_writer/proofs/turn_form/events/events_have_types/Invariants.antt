use Rattle.std.proofs.Common.{take}
use Rattle.std.specs.List.{All}
use Rattle.turn_records.specs.Views.{event_view}
use Rattle.turn_writer.specs.Typed.{HasEventTypes}
use Rattle.turn_writer.proofs.turn_form.events.events_have_types.Given as goal

abbrev pub invariant-loop-event : goal.invariant-loop-event
invariant-loop-event l = All (λ e. HasEventTypes (event_view e)) (take l.event-index l.events)
