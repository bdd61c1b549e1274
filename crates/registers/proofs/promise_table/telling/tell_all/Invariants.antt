use Rattle.std.proofs.Common.{◌≡◌, take}
use Rattle.world_state.specs.promise_store.States.{settlement_view}
use Rattle.world_state.specs.promise_store.Views.{now_of}
use Rattle.world_state.specs.turn_records.Logs.{log_of}
use Rattle.registers.specs.Books.{queued, recorded}
use Rattle.registers.specs.PromiseTables.{notice_views, waiting_of}
use Rattle.registers.proofs.promise_table.telling.tell_all.Given as goal

pub record IsTold (queue log start : Type 0) : Type 0 where
  pub queued : queue
  pub recorded : log
  pub same_start : start

abbrev pub invariant-loop-event : goal.invariant-loop-event
invariant-loop-event l = IsTold
    (waiting_of l.queue.now ≡ queued (notice_views (now_of l.promises).entries) (take l.event-index l.happened) (waiting_of l.initial.queue.now))
    (log_of l.log ≡ recorded (settlement_view l.settlement) (take l.event-index l.happened) (log_of l.initial.log))
    (l.queue.start ≡ l.initial.queue.start)
