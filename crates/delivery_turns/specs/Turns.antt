-- What a delivery comes to: what is read for it, its answer, and its effects, from the world behind it.
use Rattle.std.specs.Prelude.{ℕ, List, ◌++◌}
use Rattle.rules.specs.Zoe.{TextReader}
use Rattle.world_laws.specs.turn_records.Deliveries.{Delivery, Reading}
use Rattle.world_laws.specs.turn_records.Events.{Answer}
use Rattle.world_laws.specs.world_state.Worlds.{Effect, State, after_all}
use Rattle.delivery_turns.specs.Endings.{ending}
use Rattle.delivery_turns.specs.Tasks.{Beginning, Work, beginning, task_work}

pub record DeliveryTurn : Type 0 where
  pub reading : Reading
  pub answer : Answer
  pub effects : List Effect

-- what was done, and then the turn's end
abbrev pub ended_turn : State → Delivery → Reading → Work → DeliveryTurn
ended_turn w d reading work = record {
  reading = reading;
  answer = work.answer;
  effects = work.effects ++ ending d work.answer (after_all w work.effects);
}

abbrev pub turn_begun : TextReader → ℕ → State → Delivery → Beginning → DeliveryTurn
turn_begun read meter w d b = ended_turn w d b.reading (task_work read meter w b.task)

-- functions run under the meter, and texts of contracts are read by the reader
unfoldable pub delivery_turn : TextReader → ℕ → State → Delivery → DeliveryTurn
delivery_turn read meter w d = turn_begun read meter w d (beginning w d)
