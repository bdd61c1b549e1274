use Rattle.std.proofs.Common.{◌++◌, map, ap, ◌∙◌, subst, arith, string_bytes}
use Rattle.std.proofs.lemmas.List.{take_all}
use Rattle.std.proofs.lemmas.List.Elements.{All-more}
use Rattle.turn_rows.specs.Rows.{event_row}
use Rattle.turn_records.specs.Printed.{printed_event}
use Rattle.turn_records.specs.Views.{event_view, event_views}
use Rattle.turn_writer.specs.ShortRows.{IsShortRow}
use Rattle.turn_writer.proofs.MoreRows.{text_more, told_text, told_texts}
use Rattle.turn_writer.proofs.Told.{each_by, each_view}
use Rattle.turn_writer.proofs.push_events.Goals as goal

pub loop-event-preserved : goal.loop-event-preserved
loop-event-preserved c =
    let es = c.args.events.now in
    let i = c.loop-event.event-index in
    record {
      adds = text_more told_text es i c.event-item.result _ _ _ (omega arith) c.loop-event.invariant.adds
          (c.in_ok-push_event.ensures.adds ∙ ap (λ e. string_bytes c.loop-event.text ++ told_text e) c.event-item.is);
      short = All-more (λ e. IsShortRow (event_row (printed_event (event_view e)))) es i c.event-item.result (omega arith) c.loop-event.invariant.short
          (subst (λ e. IsShortRow (event_row (printed_event (event_view e)))) c.event-item.is c.in_ok-push_event.ensures.short);
    }

pub returns-clause-adds : goal.returns-clause-adds
returns-clause-adds c =
    let es = c.args.events.now in
    rw (take_all c.loop-event.event-index es (omega arith)) at c.loop-event.invariant.adds ∙ ap (λ t. string_bytes c.args.text.now ++ t) (told_texts es)

pub returns-clause-short : goal.returns-clause-short
returns-clause-short c =
    let es = c.args.events.now in
    each_by IsShortRow event_row (map printed_event (event_views es))
    (each_by (λ r. IsShortRow (event_row r)) printed_event (event_views es)
    (each_view (λ e. IsShortRow (event_row (printed_event e))) event_view es (rw (take_all c.loop-event.event-index es (omega arith)) at c.loop-event.invariant.short)))
