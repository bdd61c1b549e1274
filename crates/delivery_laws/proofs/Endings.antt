-- With which answer the turn of a delivery ends.
use Rattle.std.specs.Prelude.{cond, nat_lt}
use Rattle.std.proofs.Common.{ℕ, Bool, true, false, List, [], ◌∷◌, Result, Ok, Err, refl}
use Rattle.delivery_turns.specs.rules.Outcomes.{Outcome}
use Rattle.turn_writer.specs.host_data.Tree.{Tree}
use Rattle.turn_writer.specs.host_data.declared.data.Obj.{Obj}
use Rattle.turn_writer.specs.host_data.declared.data.ObjKind.{ObjKind}
use Rattle.turn_writer.specs.host_data.declared.data.ObjKind.TheVariants as kinds
use Rattle.turn_writer.specs.refusals.declared.codes.Refusal.{Refusal}
use Rattle.turn_writer.specs.refusals.declared.codes.Refusal.TheVariants.{Backwards}
use Rattle.delivery_turns.specs.rules.Zoe.{TextReader}
use Rattle.delivery_turns.specs.turn_records.Ends.{CanEnd, CanEndCall, CanEndGift, CanEndOn, CanEndTick, IsAnswered}
use Rattle.delivery_turns.specs.turn_records.Deliveries as deliveries
use Rattle.delivery_turns.specs.turn_records.Deliveries.{Delivery}
use Rattle.delivery_turns.specs.turn_records.Messages.{LineGift}
use Rattle.delivery_turns.specs.world_state.Worlds.{State, set_time}
use Rattle.delivery_turns.specs.rules.Methods.{serve as serve_call}
use Rattle.delivery_turns.specs.HostCalls.{answer_of}
use Rattle.delivery_turns.specs.Messages.{Addressed, addressed, gift_of, sent_to}
use Rattle.delivery_turns.specs.Tasks.{beginning, call_beginning, do_all, gift_beginning, refuse, task_on, task_work}

row_answers : (row : Outcome) → IsAnswered (answer_of row)
row_answers (Ok (answer, es)) = tt
row_answers (Err r) = tt

module _ (read : TextReader) (meter : ℕ) (w : State) where
  on_ends : (k : ObjKind) (o : Obj) (method : List ℕ) (args : List Tree) → CanEndOn k (task_work read meter w (task_on k w o method args)).answer
  unfolding task_work
  on_ends kinds.Facet o method args = tt
  on_ends k o method args = row_answers (serve_call read w o method args)

  call_ends : (method : List ℕ) (r : Result Addressed Refusal) → let b = call_beginning w method r in CanEndCall b.reading (task_work read meter w b.task).answer
  unfolding task_work
  call_ends method (Ok a) = on_ends a.target.kind a.target method a.arguments
  call_ends method (Err r) = tt

  gift_ends : (g : LineGift) (r : Result Tree Refusal) → let b = gift_beginning g r in CanEndGift b.reading (task_work read meter w b.task).answer
  unfolding task_work
  gift_ends g (Ok t) = refl
  gift_ends g (Err r) = tt

  tick_ends : (t : ℕ) (b : Bool) → CanEndTick t (task_work read meter w (cond b (refuse (Backwards w.schedule.time t)) (do_all (set_time t ∷ [])))).answer
  unfolding task_work
  tick_ends t true = refl
  tick_ends t false = refl

  pub delivery_ends : (d : Delivery) → let b = beginning w d in CanEnd d b.reading (task_work read meter w b.task).answer
  unfolding beginning task_work
  delivery_ends (deliveries.call c) = call_ends c.method (addressed w c)
  delivery_ends (deliveries.send s) = call_ends s.method (sent_to w s)
  delivery_ends (deliveries.give g) = gift_ends g (gift_of w g)
  delivery_ends (deliveries.tick t) = tick_ends t (nat_lt t w.schedule.time)
  delivery_ends (deliveries.bad r) = refl
  delivery_ends (deliveries.start s) = tt
  delivery_ends (deliveries.offer o) = tt
  delivery_ends (deliveries.wake x) = tt
  delivery_ends (deliveries.notify n) = tt
  delivery_ends (deliveries.deadline seat) = refl
