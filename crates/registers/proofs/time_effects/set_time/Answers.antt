use Rattle.std.proofs.Common.{◌++◌, List, sym, ap, ◌∙◌}
use Rattle.registers.specs.PromiseTables.{waiting_of}
use Rattle.world_state.specs.turn_stores.Schedules.{Schedule, due_after}
use Rattle.world_state.specs.turn_records.Deliveries.{Delivery}
use Rattle.registers.specs.Timed.{queue_after, schedule_of}
use Rattle.registers.specs.declared.time_effects.Timed.{Timed}
use Rattle.registers.proofs.Due.{due_view, set_view}
use Rattle.registers.proofs.time_effects.set_time.Goals as goal

pub returns-in-Ok-clause-timer : goal.returns-in-Ok-clause-timer
returns-in-Ok-clause-timer c =
    ap schedule_of ((c.in-Ok.ensures).left ∙ ap (λ (s : Schedule Timed). record s { waiting = due_after s.time s.waiting }) (c.in_default.ensures).ok)
    ∙ set_view c.args.time c.args.timer.now.now

pub returns-in-Ok-clause-queue : goal.returns-in-Ok-clause-queue
returns-in-Ok-clause-queue c =
    let ds = c.args.queue.now.now in
    (c.in-Ok.ensures).queue
    ∙ (ap (λ (s : Schedule Timed). queue_after s ds) (c.in_default.ensures).ok
    ∙ ap (λ (xs : List Delivery). waiting_of ds ++ xs) (sym (due_view c.args.time c.args.timer.now.now)))
