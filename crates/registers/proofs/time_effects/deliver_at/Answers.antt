use Rattle.std.proofs.Common.{◌≡◌, ◌<◌, ℕ, Result, Ok, Err, OnOk, sym, ap, ◌∙◌, subst}
use Rattle.world_state.specs.turn_stores.Schedules.{Schedule, woken_at}
use Rattle.world_state.specs.Worlds.{scheduled}
use Rattle.registers.specs.Timed.{schedule_of, timed_view}
use Rattle.registers.specs.declared.time_effects.Timed.{Timed}
use Rattle.registers.proofs.Due.{scheduled_is, woken_view}
use Rattle.registers.proofs.time_effects.deliver_at.Goals as goal

waits : {V E : Type 0} (r : Result V E) (old new : Schedule Timed) (t : ℕ) (e : Timed) → old.time < t → OnOk r (new ≡ woken_at t e old) → OnOk r (schedule_of new ≡ scheduled t (timed_view e) (schedule_of old))
waits (Ok v) old new t e lt is = ap schedule_of is ∙ (woken_view t e old ∙ sym (scheduled_is t (timed_view e) (schedule_of old) lt))
waits (Err x) old new t e lt is = tt

pub returns-then-now-time-clause-timer : goal.returns-then-now-time-clause-timer
returns-then-now-time-clause-timer c =
    waits c.wake_at.result c.args.timer.now.now c.wake_at.new.timer.now c.args.time c.args.entry (subst (λ (n : ℕ). n < c.args.time) c.now.ensures c.if-now-time.true) (c.wake_at.ensures).ok
