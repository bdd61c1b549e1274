use Rattle.std.proofs.Common.{subst, arith}
use Rattle.std.proofs.lemmas.List.{take_all}
use Rattle.std.proofs.lemmas.List.Elements.{All-more}
use Rattle.turn_records.specs.Views.{event_view}
use Rattle.turn_writer.specs.Typed.{HasEventTypes}
use Rattle.turn_writer.proofs.Told.{each_view}
use Rattle.turn_writer.proofs.turn_form.events.events_have_types.Goals as goal

pub loop-event-preserved : goal.loop-event-preserved
loop-event-preserved c =
    All-more (λ e. HasEventTypes (event_view e)) c.args.events.now c.loop-event.event-index c.event-item.result (omega arith) c.loop-event.invariant
    (subst (λ e. HasEventTypes (event_view e)) c.event-item.is c.event_has_types.ensures)

pub returns : goal.returns
returns c = each_view HasEventTypes event_view c.args.events.now (rw (take_all c.loop-event.event-index c.args.events.now (omega arith)) at c.loop-event.invariant)
