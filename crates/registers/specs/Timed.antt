-- What a timer is to the world: a schedule of deliveries, of functions that are woken and of deadlines.
use Rattle.std.specs.Prelude.{ℕ, List, ◌++◌, map}
use Rattle.world_state.specs.turn_stores.Schedules.{Schedule, due_by}
use Rattle.registers.specs.PromiseTables.{waiting_of}
use Rattle.registers.specs.declared.time_effects.Timed.{Timed}
use Rattle.registers.specs.declared.time_effects.Timed.TheVariants.{Wake, Deadline}
use Rattle.world_state.specs.turn_records.Views.{wakeup_view}
use Rattle.world_state.specs.turn_records.declared.deliveries.Delivery as code
use Rattle.world_state.specs.turn_records.Deliveries as deliveries

abbrev pub timed_view : Timed → deliveries.Delivery
timed_view (Wake w) = deliveries.wake (wakeup_view w)
timed_view (Deadline seat) = deliveries.deadline seat

-- an entry of the timer, with its time
abbrev pub entry_view : ℕ × Timed → ℕ × deliveries.Delivery
entry_view e = (e.0, timed_view e.1)

abbrev pub schedule_of : Schedule Timed → Schedule deliveries.Delivery
schedule_of s = record { time = s.time; made = s.made; waiting = map entry_view s.waiting }

abbrev pub entries_of : List (ℕ × Timed) → List deliveries.Delivery
entries_of es = map (λ e. timed_view e.1) es

-- what waits once all that is due has been moved to the queue
abbrev pub queue_after : Schedule Timed → List code.Delivery → List deliveries.Delivery
queue_after s ds = waiting_of ds ++ entries_of (due_by s.time s.waiting)
