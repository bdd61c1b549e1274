use Rattle.std.proofs.Common.{◌∷◌, [], List, get_or, ap, ◌∙◌}
use Rattle.world_state.specs.promise_store.declared.links.Consequence.TheVariants.{Settled}
use Rattle.world_state.specs.promise_store.States.{settlement_view}
use Rattle.world_state.specs.promise_store.Views.{now_of}
use Rattle.world_state.specs.turn_records.Logs.{log_of}
use Rattle.world_state.specs.turn_records.Deliveries as deliveries
use Rattle.world_state.specs.turn_records.Events as told
use Rattle.registers.specs.Books.{queued, recorded}
use Rattle.registers.specs.PromiseTables.{notice_views, waiting_of}
use Rattle.registers.proofs.Tellings.{queued_more, recorded_more}
use Rattle.registers.proofs.promise_table.telling.tell_all.Goals as goal

pub loop-event-preserved : goal.loop-event-preserved
loop-event-preserved c =
    let rs = notice_views (now_of c.args.promises.now).entries in
    let v = settlement_view c.args.settlement.now in
    let es = c.args.happened.now in
    let i = c.loop-event.event-index in
    let one = get_or es i (Settled 0) ∷ [] in
    record {
      queued = (c.in_ok-tell.ensures).queued
          ∙ (ap (λ (ds : List deliveries.Delivery). queued rs one ds) (c.loop-event.invariant).queued
          ∙ queued_more rs es i (Settled 0) (waiting_of c.args.queue.now.now) c.loop-event-test.true);
      recorded = (c.in_ok-tell.ensures).recorded
          ∙ (ap (λ (log : List told.Event). recorded v one log) (c.loop-event.invariant).recorded
          ∙ recorded_more v es i (Settled 0) (log_of c.args.log.now) c.loop-event-test.true);
      same_start = (c.in_ok-tell.ensures).start ∙ (c.loop-event.invariant).same_start;
    }
