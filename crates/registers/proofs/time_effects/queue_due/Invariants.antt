use Rattle.std.proofs.Common.{◌≡◌, length}
use Rattle.world_state.specs.turn_stores.Schedules.{due_after}
use Rattle.registers.specs.Timed.{queue_after}
use Rattle.registers.proofs.time_effects.queue_due.Given as goal

-- what is due is in the queue or goes there, and what is left stays
pub record IsMoving (a b c d e f : Type 0) : Type 0 where
  pub queue : a
  pub left : b
  pub time : c
  pub made : d
  pub start : e
  pub queue_start : f

abbrev pub invariant-loop : goal.invariant-loop
invariant-loop l = IsMoving
    (queue_after l.timer.now l.queue.now ≡ queue_after l.initial.timer.now l.initial.queue.now)
    (due_after l.timer.now.time l.timer.now.waiting ≡ due_after l.initial.timer.now.time l.initial.timer.now.waiting)
    (l.timer.now.time ≡ l.initial.timer.now.time)
    (l.timer.now.made ≡ l.initial.timer.now.made)
    (l.timer.start ≡ l.initial.timer.start)
    (l.queue.start ≡ l.initial.queue.start)

abbrev pub decreases-loop : goal.decreases-loop
decreases-loop l = length l.timer.now.waiting
