-- The turn of the delivery in front: begun, its task's work done, and ended.
use Rattle.std.specs.Prelude.{◌≡◌, ℕ, ◌≤◌}
use Rattle.contract_powers.specs.world_effects.CarriedEffects.{AreCarried, IsInTurn}
use Rattle.contract_powers.specs.contract_texts.Reader.{reader}
use Rattle.delivery_tasks.specs.delivery_turns.Tasks.{Task, Work, task_work}
use Rattle.delivery_tasks.specs.delivery_turns.Turns.{DeliveryTurn, delivery_turn}
use Rattle.fair_laws.specs.Accounts.{AreStoredEffects}
use Rattle.contract_powers.specs.host_world.Worlds.{world_at_start, world_now, world_of}
use Rattle.contract_powers.specs.host_world.declared.World.{World}
use Rattle.contract_powers.specs.registers.RegisterStates.{front_of}
use Rattle.contract_powers.specs.turn_records.Views.{answer_view, reading_view}
use Rattle.contract_powers.specs.turn_records.declared.events.Answer.{Answer}
use Rattle.contract_powers.specs.turn_records.Deliveries.{Delivery}
use Rattle.contract_powers.specs.world_state.Good.{IsGoodWorld}
use Rattle.front_turns.specs.declared.turns.Delivered.{Delivered}

-- the delivery that a turn is about
abbrev pub front : World → Delivery
front w = front_of (world_now w).waiting

-- nothing was done yet in the turn, whose delivery is in front of a good world
pub record IsBegun (w : World) : Type 0 where
  pub turn : IsInTurn w
  pub same : world_at_start w ≡ world_now w
  pub good : IsGoodWorld (world_now w)

-- what was done is answered so, and its effects were carried out
pub record IsDone (old new : World) (a : Answer) (work : Work) : Type 0 where
  pub answer : answer_view a ≡ work.answer
  pub carried : AreCarried old new work.effects

-- what a task comes to in the world of a turn
abbrev pub work_of : ℕ → World → Task → Work
work_of meter w task = task_work reader meter (world_of w) task

-- the turn of the delivery in front
abbrev pub turn_in : ℕ → World → DeliveryTurn
turn_in meter w = delivery_turn reader meter (world_of w) (front w)

-- what was read and answered is the turn's, and its effects were carried out, of which all that moves goes to or comes
-- from where things are kept
pub record IsDelivered (meter : ℕ) (old new : World) (d : Delivered) : Type 0 where
  pub reading : reading_view d.reading ≡ (turn_in meter old).reading
  pub answer : answer_view d.answer ≡ (turn_in meter old).answer
  pub effects : AreCarried old new (turn_in meter old).effects
  pub stored : AreStoredEffects (turn_in meter old).effects
