-- What is known of the task of the delivery in front of a good world.
use Rattle.std.specs.Prelude.{IfOk, cond, is_none, nat_lt}
use Rattle.std.specs.List.{AllByRecursion}
use Rattle.std.proofs.Common.{◌≡◌, ℕ, ◌≤◌, ◌<◌, Bool, true, false, List, [], ◌∷◌, Option, Some, None, Result, Ok, Err, length, refl, subst}
use Rattle.delivery_tasks.specs.host_data.Values.{number_tree}
use Rattle.fair_laws.proofs.rule_laws.Forms.{object_formed}
use Rattle.fair_laws.proofs.rule_laws.Shown.{handed_held}
use Rattle.contract_powers.specs.rules.Words.{has_halted, standing_of}
use Rattle.fair_laws.proofs.rule_laws.Methods.{calls_are, services_are}
use Rattle.contract_powers.specs.contract_texts.Reader.{reader}
use Rattle.contract_powers.proofs.contract_texts.Modules.{reads_modules}
use Rattle.contract_powers.specs.actors.Facets.{FacetView, facet_at, no_facet}
use Rattle.jessie_interpreter.specs.jessie_semantics.Keeping.{AllHave}
use Rattle.delivery_tasks.specs.host_data.Tree.{Tree, object}
use Rattle.delivery_tasks.specs.host_data.declared.data.Obj.{Obj}
use Rattle.delivery_tasks.specs.host_data.declared.data.ObjKind.{ObjKind}
use Rattle.delivery_tasks.specs.host_data.declared.data.ObjKind.TheVariants as kinds
use Rattle.contract_powers.specs.refusals.Codes.{closed}
use Rattle.contract_powers.specs.refusals.declared.codes.Refusal.{Refusal}
use Rattle.contract_powers.specs.refusals.declared.codes.Refusal.TheVariants.{Backwards}
use Rattle.contract_powers.specs.turn_records.Deliveries as deliveries
use Rattle.contract_powers.specs.turn_records.Deliveries.{Delivery}
use Rattle.contract_powers.specs.turn_records.Messages.{LineGift}
use Rattle.contract_powers.specs.turn_records.Printed.{notice_tree}
use Rattle.contract_powers.specs.turn_rows.Causes as causes
use Rattle.contract_powers.proofs.world_laws.Fronts.{due_behind, good_behind}
use Rattle.contract_powers.proofs.world_laws.Lists.{all_read}
use Rattle.contract_powers.specs.world_state.Good.{IsFacet, IsGoodWorld, IsSettling}
use Rattle.contract_powers.specs.world_state.Known.{IsHanded, IsKnownTo, made_as}
use Rattle.contract_powers.specs.world_state.Worlds.{State, exit, in_front, seat_at, set_time}
use Rattle.delivery_tasks.specs.delivery_turns.Functions.{FunctionCall}
use Rattle.delivery_tasks.specs.delivery_turns.Messages.{Addressed, addressed, gift_of, sent_to}
use Rattle.delivery_tasks.specs.delivery_turns.Tasks.{Task, beginning, call_beginning, do_all, exit_if_open, facet_task, function_behind, gift_beginning, handler_call, method_task, notice_call, refuse, run_task, settlement_of, start_call, task_on, task_work, tick_task, wakeup_call}
use Rattle.delivery_tasks.specs.delivery_turns.Tasks as tasks
use Rattle.fair_laws.specs.delivery_laws.Works.{IsTurnWork}
use Rattle.fair_laws.proofs.delivery_laws.Reading.{IsAddressed, IsCalled, addressed_there, sent_there, weaker_ok}
use Rattle.fair_laws.proofs.delivery_laws.Works.{notice_handed, settlement_handed, work_is}
use Rattle.front_turns.specs.KnownTasks.{IsThere}

module _ (meter : ℕ) (w : State) (d : Delivery) (good : IsGoodWorld (in_front d w)) where
  -- what is done is good, and leaves the delivery's promise to the turn's end
  pub tasked_work : IsTurnWork w d (task_work reader meter w (beginning w d).task)
  tasked_work = work_is reader (services_are reader reads_modules) calls_are meter w d good

  whole : IsGoodWorld w
  whole = good_behind w d good

  told_handed : (n : ℕ) → IsSettling w (settlement_of w n) → IsHanded w (notice_tree (settlement_of w n))
  told_handed n is = notice_handed reader (services_are reader reads_modules) calls_are meter w d good (settlement_of w n) is

module _ (w : State) where
  run_there : (c : FunctionCall) → c.instance < length w.tables.instances → AllHave (IsKnownTo w c.instance) c.arguments → IsThere w (run_task w c)
  run_there c made known = by (has_halted (standing_of w c.instance))
    where
      by : (b : Bool) → IsThere w (cond b (refuse (closed c.instance)) (tasks.run c))
      by true = tt
      by false = record { made = made; arguments = known }

  known_all : (i : ℕ) (ts : List Tree) → AllByRecursion (IsHanded w) ts → AllHave (IsKnownTo w i) ts
  known_all i [] h = tt
  known_all i (t ∷ ts) h = (handed_held w (Some i) t h.0, known_all i ts h.1)

  number_known : (i n : ℕ) → IsKnownTo w i (number_tree n)
  number_known i n = record { objects = tt; functions = tt; named = tt; ordered = tt; shallow = tt }

  -- ---- calls

  method_there : (f : FacetView) (method : List ℕ) (args : List Tree) (o : Option (List ℕ)) → IsFacet w f → AllByRecursion (IsHanded w) args → IsThere w (method_task f method args o)
  method_there f method args None is handed = tt
  method_there f method args (Some g) is handed = record { made = is.made; arguments = (is.held, known_all f.instance args handed) }

  facet_there : (f : FacetView) (method : List ℕ) (args : List Tree) → IsFacet w f → AllByRecursion (IsHanded w) args → IsThere w (facet_task w f method args)
  facet_there f method args is handed = by (has_halted (standing_of w f.instance))
    where
      by : (b : Bool) → IsThere w (cond b (refuse (closed f.instance)) (method_task f method args (function_behind method f)))
      by true = tt
      by false = method_there f method args (function_behind method f) is handed

  module _ (good : IsGoodWorld w) where
    on_there : (k : ObjKind) (o : Obj) (method : List ℕ) (args : List Tree) → o.kind ≡ k → IsHanded w (object o) → AllByRecursion (IsHanded w) args → IsThere w (task_on k w o method args)
    on_there kinds.Facet o method args e target handed =
        let made : o.number < length w.facets = subst (λ k. made_as w k o.number) e target.objects in
        facet_there (facet_at w.facets o.number) method args (all_read (IsFacet w) w.facets o.number no_facet good.facets made) handed
    on_there k o method args e target handed = record { target = target; arguments = handed }

    called_there : (method : List ℕ) (r : Result Addressed Refusal) → IfOk r (IsAddressed w good) → IsThere w (call_beginning w method r).task
    called_there method (Ok a) is = on_there a.target.kind a.target method a.arguments refl is.target is.arguments
    called_there method (Err r) is = tt

  -- ---- what else is delivered

  gift_there : (g : LineGift) (r : Result Tree Refusal) → IsThere w (gift_beginning g r).task
  gift_there g (Ok t) = (tt, tt)
  gift_there g (Err r) = tt

  tick_there : (now t : ℕ) → IsThere w (tick_task now t)
  tick_there now t = by (nat_lt t now)
    where
      by : (b : Bool) → IsThere w (cond b (refuse (Backwards now t)) (do_all (set_time t ∷ [])))
      by true = tt
      by false = (tt, tt)

  deadline_there : (seat : ℕ) → IsThere w (do_all (exit_if_open w seat causes.deadline))
  deadline_there seat = by (is_none (seat_at w.seats seat).last)
    where
      by : (b : Bool) → IsThere w (do_all (cond b (exit seat causes.deadline ∷ []) []))
      by true = (tt, tt)
      by false = tt

pub tasked_there : (meter : ℕ) (w : State) (d : Delivery) → IsGoodWorld (in_front d w) → IsThere w (beginning w d).task
unfolding beginning
tasked_there meter w (deliveries.call c) good =
    let d = deliveries.call c in
    let here = good_behind w d good in
    called_there w here c.method (addressed w c) (weaker_ok (IsCalled w here c) (IsAddressed w here) (addressed w c) (λ a is. is.addressed_to) (addressed_there w here c (due_behind w d good)))
tasked_there meter w (deliveries.send s) good =
    let d = deliveries.send s in
    let here = good_behind w d good in
    called_there w here s.method (sent_to w s) (sent_there w here s (due_behind w d good))
tasked_there meter w (deliveries.give g) good = gift_there w g (gift_of w g)
tasked_there meter w (deliveries.tick t) good = tick_there w w.schedule.time t
tasked_there meter w (deliveries.bad r) good = tt
tasked_there meter w (deliveries.start s) good =
    let due = due_behind w (deliveries.start s) good in
    run_there w (start_call s) due.made
    (object_formed w (Some s.instance) (record { kind = kinds.Zcf; number = s.instance }) refl, (handed_held w (Some s.instance) s.private_arguments due.arguments, tt))
tasked_there meter w (deliveries.offer o) good =
    let due = due_behind w (deliveries.offer o) good in
    run_there w (handler_call o) due.function.made
    (object_formed w (Some o.instance) (record { kind = kinds.Zseat; number = o.seat }) due.seat, (handed_held w (Some o.instance) o.offer_arguments due.arguments, (due.held, tt)))
tasked_there meter w (deliveries.wake x) good =
    let due = due_behind w (deliveries.wake x) good in
    run_there w (wakeup_call x w.schedule.time) due.function.made (due.held, (number_known w x.instance w.schedule.time, tt))
tasked_there meter w (deliveries.notify n) good =
    let d = deliveries.notify n in
    let due = due_behind w d good in
    let told = told_handed meter w d good n.promise (settlement_handed w (good_behind w d good) n.promise due.notice.promise) in
    run_there w (notice_call n (settlement_of w n.promise)) due.notice.function.made
    (due.notice.held, (handed_held w (Some n.instance) (notice_tree (settlement_of w n.promise)) told, tt))
tasked_there meter w (deliveries.deadline seat) good = deadline_there w seat
