-- A whole turn: its work, and its end.
use Rattle.std.specs.Prelude.{IfOk}
use Rattle.std.specs.declared.alloc.AllocError.{AllocError}
use Rattle.std.proofs.Common.{◌≡◌, ℕ, Result, Ok, sym, ◌∙◌, ap, subst}
use Rattle.contract_powers.specs.world_effects.CarriedEffects.{AreCarried}
use Rattle.fair_laws.specs.delivery_laws.Works.{IsOut, IsTurnWork, LabelIsFree}
use Rattle.fair_laws.proofs.delivery_laws.Hosts.{quiet_end}
use Rattle.delivery_tasks.specs.delivery_turns.Endings.{ending}
use Rattle.delivery_tasks.specs.delivery_turns.Tasks.{Beginning, Task, Work, beginning}
use Rattle.delivery_tasks.specs.delivery_turns.Turns.{delivery_turn}
use Rattle.fair_laws.specs.Accounts.{AreStoredEffects, IsStoredEffect}
use Rattle.contract_powers.specs.host_world.Worlds.{world_now, world_of}
use Rattle.contract_powers.specs.host_world.declared.World.{World}
use Rattle.contract_powers.specs.turn_records.Views.{answer_view, reading_view}
use Rattle.contract_powers.specs.turn_records.declared.events.Answer.{Answer}
use Rattle.contract_powers.specs.turn_records.Deliveries.{Delivery}
use Rattle.contract_powers.specs.turn_records.Events as told
use Rattle.contract_powers.specs.world_state.Good.{IsGoodWorld}
use Rattle.contract_powers.specs.world_state.Worlds.{State, after_all, in_front}
use Rattle.front_turns.specs.KnownTasks.{IsThere}
use Rattle.front_turns.specs.FrontTurns.{IsBegun, IsDelivered, IsDone, front, turn_in, work_of}
use Rattle.front_turns.specs.declared.turns.Delivered.{Delivered}
use Rattle.front_turns.proofs.TurnEffects.{carried_by, carried_on, front_stays}
use Rattle.front_turns.proofs.EffectLists.{all_both, fronted}
use Rattle.front_turns.proofs.StoredEffects.{quiet_stored, tasked_stored}
use Rattle.front_turns.proofs.KnownTasks.{tasked_there, tasked_work}

-- the work of the task that was begun
pub done_by : (meter : ℕ) (w mid : World) (b : Beginning) (r : Result Answer AllocError) (a : Answer) → b ≡ beginning (world_of w) (front w) → IfOk r (λ x. IsDone w mid x (work_of meter w b.task)) → r ≡ Ok a
    → IsDone w mid a (work_of meter w (beginning (world_of w) (front w)).task)
done_by meter w mid b r a same done is =
    subst (λ (x : Beginning). IsDone w mid a (work_of meter w x.task)) same
    (subst (λ (x : Result Answer AllocError). IfOk x (λ y. IsDone w mid y (work_of meter w b.task))) is done)

module _ (meter : ℕ) (w : World) (begun : IsBegun w) where
  -- what the delivery's task is
  abbrev task : Task
  task = (beginning (world_of w) (front w)).task

  abbrev work : Work
  work = work_of meter w task

  pub good_front : IsGoodWorld (in_front (front w) (world_of w))
  good_front = subst IsGoodWorld (fronted (world_now w) begun.turn.waits) begun.good

  pub turn_work : IsTurnWork (world_of w) (front w) work
  turn_work = tasked_work meter (world_of w) (front w) good_front

  pub task_there : IsThere (world_of w) task
  task_there = tasked_there meter (world_of w) (front w) good_front

  work_stored : AreStoredEffects work.effects
  work_stored = tasked_stored meter (world_of w) (front w) good_front begun.turn.good task task_there

  pub stored_all : AreStoredEffects (turn_in meter w).effects
  unfolding delivery_turn
  stored_all =
      let last = ending (front w) work.answer (after_all (world_of w) work.effects) in
      all_both IsStoredEffect work.effects last work_stored (quiet_stored last (quiet_end (after_all (world_of w) work.effects) (front w) work.answer))

  module _ (mid : World) (a : Answer) (done : IsDone w mid a work) where
    same_front : front w ≡ front mid
    same_front = sym (front_stays w mid work.effects begun.turn done.carried)

    same_world : after_all (world_of w) work.effects ≡ world_of mid
    same_world = sym done.carried.world

    same_answer : work.answer ≡ answer_view a
    same_answer = sym done.answer

    pub still_fronted : IsGoodWorld (in_front (front mid) (world_of mid))
    still_fronted = subst IsGoodWorld (λ i. in_front (same_front i) (same_world i)) turn_work.front

    pub answer_out : IsOut (world_of mid) (answer_view a)
    answer_out = subst (λ (v : State). IsOut v (answer_view a)) same_world (subst (λ (x : told.Answer). IsOut (after_all (world_of w) work.effects) x) same_answer turn_work.out)

    pub label_free : LabelIsFree (world_of mid) (front mid) (answer_view a)
    label_free =
        subst (λ (d : Delivery). LabelIsFree (world_of mid) d (answer_view a)) same_front
        (subst (λ (v : State). LabelIsFree v (front w) (answer_view a)) same_world
        (subst (λ (x : told.Answer). LabelIsFree (after_all (world_of w) work.effects) (front w) x) same_answer turn_work.free))

    same_end : ending (front mid) (answer_view a) (world_of mid) ≡ ending (front w) work.answer (after_all (world_of w) work.effects)
    same_end = λ i. ending (sym same_front i) (done.answer i) (done.carried.world i)

    pub delivered : (new : World) (d : Delivered) → AreCarried mid new (ending (front mid) (answer_view a) (world_of mid)) → d.answer ≡ a → reading_view d.reading ≡ (beginning (world_of w) (front w)).reading
        → IsDelivered meter w new d
    unfolding delivery_turn
    delivered new d ends answer read = record {
      reading = read;
      answer = ap answer_view answer ∙ done.answer;
      effects = carried_on w mid new work.effects (ending (front w) work.answer (after_all (world_of w) work.effects)) done.carried (carried_by mid new _ _ same_end ends);
      stored = stored_all;
    }
