-- Calls of the host are told only where a function was run that didn't spend its meter.
use Rattle.std.specs.Prelude.{IfOk, cond, is_none, nat_lt}
use Rattle.std.specs.List.{AllByRecursion}
use Rattle.std.proofs.Common.{◌≡◌, ℕ, Bool, true, false, List, [], ◌∷◌, ◌++◌, Option, Some, None, Result, Ok, Err, refl, sym, subst}
use Rattle.delivery_turns.specs.rules.Acts.{MayAct}
use Rattle.delivery_turns.specs.rules.Obligations.{IsRule}
use Rattle.delivery_turns.specs.rules.Outcomes.{Outcome}
use Rattle.delivery_turns.specs.rules.Traces.{all_open}
use Rattle.delivery_turns.specs.rules.Words.{has_halted, standing_of}
use Rattle.delivery_turns.specs.actors.Facets.{FacetView, facet_at}
use Rattle.rule_laws.specs.jessie_semantics.Play as plays
use Rattle.rule_laws.specs.jessie_semantics.Play.{Ending}
use Rattle.turn_writer.specs.host_data.Tree.{Tree, is_local}
use Rattle.turn_writer.specs.host_data.declared.data.Obj.{Obj}
use Rattle.turn_writer.specs.host_data.declared.data.ObjKind.{ObjKind}
use Rattle.turn_writer.specs.host_data.declared.data.ObjKind.TheVariants as kinds
use Rattle.turn_writer.specs.refusals.Codes.{closed, local_only, no_method, refusal_tree}
use Rattle.turn_writer.specs.refusals.declared.codes.Refusal.{Refusal}
use Rattle.turn_writer.specs.refusals.declared.codes.Refusal.TheVariants.{Backwards}
use Rattle.rule_laws.specs.GoodServices.{AreGoodServices}
use Rattle.delivery_turns.specs.rules.Zoe.{TextReader}
use Rattle.delivery_turns.specs.turn_records.Ends.{CanTell, IsOfFacet, IsUnspent, RunsFunction}
use Rattle.delivery_turns.specs.turn_records.Deliveries as deliveries
use Rattle.delivery_turns.specs.turn_records.Deliveries.{Delivery, Reading, target}
use Rattle.delivery_turns.specs.turn_records.Events.{Answer, given, spent, threw}
use Rattle.delivery_turns.specs.turn_records.Messages.{LineGift}
use Rattle.delivery_turns.specs.turn_rows.Causes as causes
use Rattle.delivery_turns.specs.world_state.Good.{IsGoodWorld}
use Rattle.delivery_turns.specs.world_state.Worlds.{Effect, State, exit, halt, in_front, keep_state, note_call, seat_at, set_time}
use Rattle.rule_laws.proofs.world_laws.Fronts.{due_behind, good_behind}
use Rattle.delivery_turns.specs.rules.Methods.{serve as serve_call}
use Rattle.delivery_turns.specs.Functions.{FunctionCall, Run, ended, function_run, ran_out}
use Rattle.delivery_turns.specs.Messages.{Addressed, addressed, gift_of, sent_to}
use Rattle.delivery_turns.specs.Tasks as tasks
use Rattle.delivery_turns.specs.Tasks.{Work, answer_of_ending, beginning, call_beginning, do_all, exits_with, facet_task, function_behind, gift_beginning, handler_call, method_task, notice_call, refuse, outcome_work, run_task, run_work, settlement_of, start_call, task_on, task_work, wakeup_call}
use Rattle.delivery_laws.proofs.Hosts.{IsQuiet, quiet_both, quiet_exits}
use Rattle.delivery_laws.proofs.Reading.{IsAddressed, IsCalled, addressed_there, sent_there, weaker_ok}
use Rattle.delivery_laws.proofs.Works.{service_rule}
use Rattle.delivery_laws.proofs.Growing.{TellsSo}

-- ---- effects

module _ (d : Delivery) (r : Reading) (a : Answer) where
  abbrev Tells : Effect → Type 0
  Tells e = TellsSo (CanTell d r a) e

  quiet_tells : (e : Effect) → IsQuiet e → Tells e
  quiet_tells (note_call c) quiet = absurd quiet
  quiet_tells e quiet = tt

  pub all_quiet_tell : (es : List Effect) → AllByRecursion IsQuiet es → AllByRecursion Tells es
  all_quiet_tell [] quiet = tt
  all_quiet_tell (e ∷ es) quiet = (quiet_tells e quiet.0, all_quiet_tell es quiet.1)

  act_tells : (w : State) (o : Obj) (m : List ℕ) (e : Effect) → MayAct w None o m e → Tells e
  act_tells w o m (note_call c) may = absurd may
  act_tells w o m e may = tt

  all_acts_tell : (w : State) (o : Obj) (m : List ℕ) (es : List Effect) → AllByRecursion (MayAct w None o m) es → AllByRecursion Tells es
  all_acts_tell w o m [] may = tt
  all_acts_tell w o m (e ∷ es) may = (act_tells w o m e may.0, all_acts_tell w o m es may.1)

  -- where a function was run that didn't spend its meter, any call may be told
  run_tells : RunsFunction d r → IsUnspent a → (e : Effect) → Tells e
  run_tells runs unspent (note_call c) = (runs, unspent)
  run_tells runs unspent e = tt

  all_run_tell : RunsFunction d r → IsUnspent a → (es : List Effect) → AllByRecursion Tells es
  all_run_tell runs unspent [] = tt
  all_run_tell runs unspent (e ∷ es) = (run_tells runs unspent e, all_run_tell runs unspent es)

-- ---- functions

ending_unspent : (e : Ending) → IsUnspent (answer_of_ending e)
ending_unspent (plays.returned v) = by (is_local v)
  where
    by : (b : Bool) → IsUnspent (cond b (threw (refusal_tree local_only)) (given v))
    by true = tt
    by false = tt
ending_unspent (plays.threw v) = by (is_local v)
  where
    by : (b : Bool) → IsUnspent (cond b (threw (refusal_tree local_only)) (threw v))
    by true = tt
    by false = tt

module _ (read : TextReader) (meter : ℕ) (w : State) (d : Delivery) where
  abbrev pub TellsWell : Reading → Work → Type 0
  TellsWell r work = AllByRecursion (TellsSo (CanTell d r work.answer)) work.effects

  ran_tells : (r : Reading) → RunsFunction d r → (i : ℕ) (ran : Run) → TellsWell r (run_work meter w i ran)
  ran_tells r runs i (ended e values es) = all_run_tell d r (answer_of_ending e) runs (ending_unspent e) (es ++ keep_state i values ∷ [])
  ran_tells r runs i ran_out =
      all_quiet_tell d r (spent meter) (exits_with causes.spent (all_open w i) ++ halt i ∷ [])
      (quiet_both (exits_with causes.spent (all_open w i)) (halt i ∷ []) (quiet_exits causes.spent (all_open w i)) (tt, tt))

  function_tells : (r : Reading) → RunsFunction d r → (c : FunctionCall) → TellsWell r (task_work read meter w (tasks.run c))
  unfolding task_work
  function_tells r runs c = ran_tells r runs c.instance (function_run meter w c)

  refused_tells : (r : Reading) (refusal : Refusal) → TellsWell r (task_work read meter w (refuse refusal))
  unfolding task_work
  refused_tells r refusal = tt

  pub task_tells : (r : Reading) → RunsFunction d r → (c : FunctionCall) → TellsWell r (task_work read meter w (run_task w c))
  task_tells r runs c = by (has_halted (standing_of w c.instance))
    where
      by : (b : Bool) → TellsWell r (task_work read meter w (cond b (refuse (closed c.instance)) (tasks.run c)))
      by true = refused_tells r (closed c.instance)
      by false = function_tells r runs c

  -- ---- calls

  method_tells : (r : Reading) → RunsFunction d r → (f : FacetView) (method : List ℕ) (args : List Tree) (o : Option (List ℕ)) → TellsWell r (task_work read meter w (method_task f method args o))
  method_tells r runs f method args None = refused_tells r (no_method method)
  method_tells r runs f method args (Some g) = function_tells r runs (record { instance = f.instance; function = g; arguments = f.held ∷ args })

  facet_tells : (r : Reading) → RunsFunction d r → (f : FacetView) (method : List ℕ) (args : List Tree) → TellsWell r (task_work read meter w (facet_task w f method args))
  facet_tells r runs f method args = by (has_halted (standing_of w f.instance))
    where
      by : (b : Bool) → TellsWell r (task_work read meter w (cond b (refuse (closed f.instance)) (method_task f method args (function_behind method f))))
      by true = refused_tells r (closed f.instance)
      by false = method_tells r runs f method args (function_behind method f)

  row_tells : (r : Reading) (o : Obj) (m : List ℕ) (args : List Tree) (row : Outcome) → IfOk row (λ x. IsRule w None o m args x.0 x.1) → TellsWell r (outcome_work row)
  row_tells r o m args (Ok (answer, es)) is = all_acts_tell d r (given answer) w o m es is.acts
  row_tells r o m args (Err refusal) is = tt

  on_tells : (k : ObjKind) (o : Obj) (m : List ℕ) (args : List Tree) → o.kind ≡ k → (IsOfFacet o.kind → RunsFunction d (target o args)) → IfOk (serve_call read w o m args) (λ x. IsRule w None o m args x.0 x.1)
      → TellsWell (target o args) (task_work read meter w (task_on k w o m args))
  unfolding task_work
  on_tells kinds.Facet o m args e runs is = facet_tells (target o args) (runs (subst IsOfFacet (sym e) tt)) (facet_at w.facets o.number) m args
  on_tells k o m args e runs is = row_tells (target o args) o m args (serve_call read w o m args) is

  called_tells : (served : AreGoodServices (serve_call read)) (good : IsGoodWorld (in_front d w)) (m : List ℕ) (r : Result Addressed Refusal)
      → ((a : Addressed) → IsOfFacet a.target.kind → RunsFunction d (target a.target a.arguments)) → IfOk r (IsAddressed w (good_behind w d good)) → let b = call_beginning w m r in TellsWell b.reading (task_work read meter w b.task)
  called_tells served good m (Ok a) runs is = on_tells a.target.kind a.target m a.arguments refl (runs a) (service_rule read w d a.target m a.arguments served good is.target is.arguments)
  called_tells served good m (Err refusal) runs is = refused_tells deliveries.nothing refusal

  -- ---- what else is delivered

  gift_tells : (g : LineGift) (r : Result Tree Refusal) → let b = gift_beginning g r in TellsWell b.reading (task_work read meter w b.task)
  unfolding task_work
  gift_tells g (Ok t) = (tt, tt)
  gift_tells g (Err refusal) = tt

  tick_tells : (r : Reading) (t : ℕ) (b : Bool) → TellsWell r (task_work read meter w (cond b (refuse (Backwards w.schedule.time t)) (do_all (set_time t ∷ []))))
  unfolding task_work
  tick_tells r t true = tt
  tick_tells r t false = (tt, tt)

  deadline_tells : (r : Reading) (seat : ℕ) (b : Bool) → TellsWell r (task_work read meter w (do_all (cond b (exit seat causes.deadline ∷ []) [])))
  unfolding task_work
  deadline_tells r seat true = (tt, tt)
  deadline_tells r seat false = tt

pub delivery_tells : (read : TextReader) (served : AreGoodServices (serve_call read)) (meter : ℕ) (w : State) (d : Delivery) → IsGoodWorld (in_front d w)
    → let b = beginning w d in TellsWell read meter w d b.reading (task_work read meter w b.task)
unfolding beginning
delivery_tells read served meter w (deliveries.call c) good =
    let d = deliveries.call c in
    let whole = good_behind w d good in
    called_tells read meter w d served good c.method (addressed w c) (λ a is. is) (weaker_ok (IsCalled w whole c) (IsAddressed w whole) (addressed w c) (λ a is. is.addressed_to) (addressed_there w whole c (due_behind w d good)))
delivery_tells read served meter w (deliveries.send s) good =
    let d = deliveries.send s in
    called_tells read meter w d served good s.method (sent_to w s) (λ a is. is) (sent_there w (good_behind w d good) s (due_behind w d good))
delivery_tells read served meter w (deliveries.give g) good = gift_tells read meter w (deliveries.give g) g (gift_of w g)
delivery_tells read served meter w (deliveries.tick t) good = tick_tells read meter w (deliveries.tick t) deliveries.nothing t (nat_lt t w.schedule.time)
delivery_tells read served meter w (deliveries.bad r) good = refused_tells read meter w (deliveries.bad r) deliveries.nothing r
delivery_tells read served meter w (deliveries.start s) good = task_tells read meter w (deliveries.start s) deliveries.nothing tt (start_call s)
delivery_tells read served meter w (deliveries.offer o) good = task_tells read meter w (deliveries.offer o) deliveries.nothing tt (handler_call o)
delivery_tells read served meter w (deliveries.wake x) good = task_tells read meter w (deliveries.wake x) (deliveries.time w.schedule.time) tt (wakeup_call x w.schedule.time)
delivery_tells read served meter w (deliveries.notify n) good =
    let s = settlement_of w n.promise in
    task_tells read meter w (deliveries.notify n) (deliveries.settlement s) tt (notice_call n s)
delivery_tells read served meter w (deliveries.deadline seat) good = deadline_tells read meter w (deliveries.deadline seat) deliveries.nothing seat (is_none (seat_at w.seats seat).last)
