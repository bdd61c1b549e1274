-- What is to be shown of the effects of a turn, whatever it is, is shown of each delivery's where it is of their parts.
use Rattle.std.specs.Prelude.{◌≡◌, ◌<◌, ◌⊎◌, ◌++◌, ℕ, Bool, true, false, cond, List, [], ◌∷◌, Option, Some, None, Result, Ok, Err, IfOk, codes, is_none, length, nat_lt, refl}
use Rattle.std.specs.List.{AllByRecursion}
use Rattle.std.proofs.Common.{inl, inr, ◌∙◌, ap, subst}
use Rattle.fair_laws.proofs.rule_laws.Forms.{object_formed}
use Rattle.fair_laws.proofs.rule_laws.OpenSeats.{all_own}
use Rattle.fair_laws.proofs.rule_laws.Shown.{handed_held}
use Rattle.fair_laws.specs.rules.Obligations.{IsRule}
use Rattle.fair_laws.specs.rules.Outcomes.{Outcome}
use Rattle.fair_laws.specs.rules.Traces.{all_open}
use Rattle.fair_laws.specs.rules.Words.{has_halted, standing_of}
use Rattle.fair_laws.specs.rules.Methods.{serve as serve_call}
use Rattle.fair_laws.specs.rules.Zoe.{TextReader}
use Rattle.fair_laws.specs.rule_laws.GoodServices.{AreGoodServices}
use Rattle.fair_laws.specs.delivery_laws.Works.{AreGoodHostCalls}
use Rattle.fair_laws.proofs.delivery_laws.Asking.{evaluates, have_all}
use Rattle.fair_laws.proofs.delivery_laws.Reading.{IsAddressed, IsCalled, addressed_there, sent_there, weaker_ok}
use Rattle.fair_laws.proofs.delivery_laws.Runs.{all_grow, grows_itself, grows_on}
use Rattle.fair_laws.proofs.delivery_laws.Works.{known_all, notice_handed, number_known, service_rule, settlement_handed}
use Rattle.fair_laws.specs.delivery_turns.Endings.{binds, binds_to, departs, ending, publishes, settles, without_cycle}
use Rattle.fair_laws.specs.delivery_turns.Functions.{FunctionCall, Run, ended, function_run, module_play, ran_out, run}
use Rattle.fair_laws.specs.delivery_turns.HostCalls.{call_effects}
use Rattle.fair_laws.specs.delivery_turns.Messages.{Addressed, addressed, gift_of, sent_to}
use Rattle.fair_laws.specs.delivery_turns.Tasks as tasks
use Rattle.fair_laws.specs.delivery_turns.Tasks.{Beginning, Work, answer_of_ending, beginning, call_beginning, do_all, exit_if_open, exits_with, facet_task, function_behind, gift_beginning, halt_with, handler_call, method_task, notice_call, refuse, outcome_work, run_task, run_work, serve, settlement_of, start_call, task_on, task_work, tick_task, wakeup_call}
use Rattle.fair_laws.specs.delivery_turns.Turns.{delivery_turn}
use Rattle.fair_laws.specs.actors.Facets.{FacetView, facet_at, no_facet}
use Rattle.fair_laws.specs.actors.Tables.{instance_at}
use Rattle.fair_laws.specs.jessie_grammar.Syntax.{variable_names}
use Rattle.fair_laws.specs.jessie_semantics.Keeping.{AllHave, CallHas}
use Rattle.fair_laws.specs.jessie_semantics.Play.{Call}
use Rattle.fair_laws.specs.world_state.host_data.Tree as trees
use Rattle.fair_laws.specs.world_state.host_data.Tree.{Tree}
use Rattle.fair_laws.specs.world_state.host_data.declared.data.Obj.{Obj}
use Rattle.fair_laws.specs.world_state.host_data.declared.data.ObjKind.{ObjKind}
use Rattle.fair_laws.specs.world_state.host_data.declared.data.ObjKind.TheVariants as kinds
use Rattle.fair_laws.specs.world_state.promise_store.States.{SettlementView}
use Rattle.fair_laws.specs.world_state.promise_store.declared.links.Following.{Following}
use Rattle.fair_laws.specs.world_state.refusals.Codes.{closed, no_method}
use Rattle.fair_laws.specs.world_state.refusals.declared.codes.Refusal.{Refusal}
use Rattle.fair_laws.specs.world_state.refusals.declared.codes.Refusal.TheVariants.{Backwards}
use Rattle.fair_laws.specs.world_state.rights_model.declared.Movement.{Movement}
use Rattle.fair_laws.specs.world_state.turn_records.Deliveries as deliveries
use Rattle.fair_laws.specs.world_state.turn_records.Deliveries.{Delivery, Reading, promise_of}
use Rattle.fair_laws.specs.world_state.turn_records.Events.{Answer, given, refused, spent, threw}
use Rattle.fair_laws.specs.world_state.turn_records.Messages.{LineGift}
use Rattle.fair_laws.specs.world_state.turn_records.Names.{object_name}
use Rattle.fair_laws.specs.world_state.turn_records.Printed.{kind_of, kind_on, method_of, notice_tree, on_of, trees_of}
use Rattle.fair_laws.specs.world_state.turn_records.Settlements.{part, settled_after}
use Rattle.fair_laws.specs.world_state.turn_rows.Causes as causes
use Rattle.fair_laws.specs.world_state.turn_rows.Causes.{Cause}
use Rattle.fair_laws.proofs.world_laws.Forms.{seat_grows}
use Rattle.fair_laws.proofs.world_laws.Fronts.{due_behind, good_behind}
use Rattle.fair_laws.proofs.world_laws.Growing.{grows-after}
use Rattle.fair_laws.proofs.world_laws.Lists.{all_read}
use Rattle.fair_laws.specs.world_state.Good.{IsDue, IsFacet, IsGoodWorld}
use Rattle.fair_laws.specs.world_state.Known.{Grows, IsHanded, IsKnownTo, IsSeatOf, made_as, module_of}
use Rattle.fair_laws.specs.world_state.Worlds.{Effect, State, after, after_all, bind_label, end_staging, exit, halt, in_front, keep_state, publish, resolve, seat_at, set_time}
use Rattle.licence_laws.specs.Came.{instance_behind, runs_in}
use Rattle.licence_laws.specs.Movements.{IsOfHost, IsOfService, RowsSoFar}
use Rattle.licence_laws.proofs.Effects.{IsStill}
use Rattle.licence_laws.proofs.Runs.{RunShows, run_shows}

-- ---- parts of a turn

-- a line's call, or one that was sent, of a method
pub record IsCalling (w : State) (d : Delivery) (m : List ℕ) : Type 0 where
  pub kind : (o : Obj) (args : List Tree) → kind_of d (deliveries.target o args) ≡ kind_on o.kind
  pub on : (o : Obj) (args : List Tree) → on_of d (deliveries.target o args) ≡ object_name o
  pub method : method_of d ≡ m
  pub arguments : (o : Obj) (args : List Tree) → trees_of d (deliveries.target o args) ≡ args
  pub runs : (o : Obj) (args : List Tree) → runs_in w d (deliveries.target o args) ≡ instance_behind w o.kind o.number
  pub moves : (o : Obj) (args : List Tree) (rows : RowsSoFar) (x : Movement) → IsOfService o m args rows x → IsOfHost d (deliveries.target o args) rows x

-- the seats that a turn may leave beside those that calls leave: of the instance whose function it runs, or the one
-- whose deadline has come
abbrev pub MayBeLeft : State → Delivery → Reading → State → ℕ → Type 0
MayBeLeft w d r v seat = ((i : ℕ) × ((runs_in w d r ≡ Some i) × IsSeatOf v.seats i seat)) ⊎ (d ≡ deliveries.deadline seat)

-- what is to be shown, by what was read and answered, of effects from a world: of each part from any world that the
-- turn comes to
pub record Parts (w : State) (d : Delivery) (T : Reading → Answer → State → List Effect → Type 0) : Type 0 where
  pub none : (r : Reading) (a : Answer) (v : State) → T r a v []
  pub both : (r : Reading) (a : Answer) (v : State) (es fs : List Effect) → T r a v es → T r a (after_all v es) fs → T r a v (es ++ fs)
  pub still : (r : Reading) (a : Answer) (v : State) (e : Effect) → IsStill e → T r a v (e ∷ [])
  pub leaves : (r : Reading) (a : Answer) (v : State) (seat : ℕ) (cause : Cause) → Grows w v → MayBeLeft w d r v seat → T r a v (exit seat cause ∷ [])
  pub calls : (r : Reading) (a : Answer) (v : State) (i : ℕ) (c : Call) → runs_in w d r ≡ Some i → IsGoodWorld v → Grows w v → i < length v.tables.instances → CallHas (IsKnownTo v i) c → T r a v (call_effects v i c)
  pub serves : (m : List ℕ) → IsCalling w d m → (o : Obj) (args : List Tree) (answer : Tree) (es : List Effect) → instance_behind w o.kind o.number ≡ None → IsHanded w (trees.object o) → AllByRecursion (IsHanded w) args → IsRule w None o m args answer es
      → T (deliveries.target o args) (given answer) w es

module _ (w : State) (d : Delivery) (T : Reading → Answer → State → List Effect → Type 0) (parts : Parts w d T) (r : Reading) (a : Answer) where
  -- an effect behind others, and before others
  pub first_shows : (v : State) (e : Effect) (es : List Effect) → T r a v (e ∷ []) → T r a (after v e) es → T r a v (e ∷ es)
  first_shows v e es one two = parts.both r a v (e ∷ []) es one two

  exits_show : (i : ℕ) → runs_in w d r ≡ Some i → (cause : Cause) (u v : State) (seats : List ℕ) → Grows w v → Grows u v → AllByRecursion (IsSeatOf u.seats i) seats → (es : List Effect)
      → ((x : State) → T r a x es) → T r a v (exits_with cause seats ++ es)
  exits_show i runs cause u v [] grown here own es rest = rest v
  exits_show i runs cause u v (s ∷ ss) grown here own es rest =
      let next = after v (exit s cause) in
      let step : Grows v next = grows-after v (exit s cause) in
      first_shows v (exit s cause) (exits_with cause ss ++ es)
      (parts.leaves r a v s cause grown (inl (i, (runs, seat_grows u v here i s own.0))))
      (exits_show i runs cause u next ss (grows_on w v next grown step) (grows_on u v next here step) own.1 es rest)

  -- all open seats of the instance are left, and it halts
  pub halts_show : (i : ℕ) → runs_in w d r ≡ Some i → (cause : Cause) (u v : State) → Grows w v → Grows u v → T r a v (halt_with cause u i)
  halts_show i runs cause u v grown here = exits_show i runs cause u v (all_open u i) grown here (all_own i u.seats) (halt i ∷ []) (λ x. parts.still r a x (halt i) tt)

-- ---- what is done

module _ (read : TextReader) (served : AreGoodServices (serve_call read)) (called : AreGoodHostCalls) (meter : ℕ) (w : State) (d : Delivery) (good : IsGoodWorld (in_front d w)) (T : Reading → Answer → State → List Effect → Type 0) (parts : Parts w d T) where
  abbrev pub WorkShows : Reading → Work → Type 0
  WorkShows r work = T r work.answer w work.effects

  abbrev pub BeginningShows : Beginning → Type 0
  BeginningShows b = WorkShows b.reading (task_work read meter w b.task)

  abbrev whole : IsGoodWorld w
  whole = good_behind w d good

  refused_shows : (r : Reading) (e : Refusal) → WorkShows r (task_work read meter w (refuse e))
  unfolding task_work
  refused_shows r e = parts.none r (refused e) w

  all_done : (r : Reading) (es : List Effect) → T r (given trees.null) w es → WorkShows r (task_work read meter w (do_all es))
  unfolding task_work
  all_done r es shows = shows

  still_done : (r : Reading) (e : Effect) → IsStill e → WorkShows r (task_work read meter w (do_all (e ∷ [])))
  still_done r e still = all_done r (e ∷ []) (parts.still r (given trees.null) w e still)

  -- ---- functions

  ran_shows : (r : Reading) (i : ℕ) → runs_in w d r ≡ Some i → (x : Run) → ((a : Answer) → RunShows (T r a) w x) → WorkShows r (run_work meter w i x)
  ran_shows r i runs (ended e values es) shows =
      let a = answer_of_ending e in
      parts.both r a w es (keep_state i values ∷ []) (shows a) (parts.still r a (after_all w es) (keep_state i values) tt)
  ran_shows r i runs ran_out shows = halts_show w d T parts r (spent meter) i runs causes.spent w w (grows_itself w) (grows_itself w)

  run_done : (r : Reading) (c : FunctionCall) → runs_in w d r ≡ Some c.instance → c.instance < length w.tables.instances → AllHave (IsKnownTo w c.instance) c.arguments → WorkShows r (task_work read meter w (tasks.run c))
  unfolding task_work function_run
  run_done r c runs made known =
      let m = module_of w.tables c.instance in
      let values = (instance_at w.tables.instances c.instance).state in
      let kept : AllHave (IsKnownTo w c.instance) values = have_all (IsKnownTo w c.instance) values (whole.instances.each c.instance made).state in
      let p = module_play m c.function c.arguments values meter in
      let asks = evaluates w c.instance whole made c.function c.arguments values meter known kept in
      ran_shows r c.instance runs (run w c.instance p)
      (λ a. run_shows (T r a) (parts.none r a) (parts.both r a) called w c.instance (length (variable_names m)) made p asks (λ v x. parts.calls r a v c.instance x runs) p [] w refl whole (grows_itself w) tt)

  task_done : (r : Reading) (c : FunctionCall) → runs_in w d r ≡ Some c.instance → c.instance < length w.tables.instances → AllHave (IsKnownTo w c.instance) c.arguments → WorkShows r (task_work read meter w (run_task w c))
  task_done r c runs made known = by (has_halted (standing_of w c.instance))
    where
      by : (b : Bool) → WorkShows r (task_work read meter w (cond b (refuse (closed c.instance)) (tasks.run c)))
      by true = refused_shows r (closed c.instance)
      by false = run_done r c runs made known

  -- ---- calls

  method_done : (r : Reading) (f : FacetView) → runs_in w d r ≡ Some f.instance → (m : List ℕ) (args : List Tree) (x : Option (List ℕ)) → IsFacet w f → AllByRecursion (IsHanded w) args → WorkShows r (task_work read meter w (method_task f m args x))
  method_done r f runs m args None is handed = refused_shows r (no_method m)
  method_done r f runs m args (Some g) is handed = run_done r (record { instance = f.instance; function = g; arguments = f.held ∷ args }) runs is.made (is.held, known_all read served called meter w d good f.instance args handed)

  facet_done : (r : Reading) (f : FacetView) → runs_in w d r ≡ Some f.instance → (m : List ℕ) (args : List Tree) → IsFacet w f → AllByRecursion (IsHanded w) args → WorkShows r (task_work read meter w (facet_task w f m args))
  facet_done r f runs m args is handed = by (has_halted (standing_of w f.instance))
    where
      by : (b : Bool) → WorkShows r (task_work read meter w (cond b (refuse (closed f.instance)) (method_task f m args (function_behind m f))))
      by true = refused_shows r (closed f.instance)
      by false = method_done r f runs m args (function_behind m f) is handed

  row_shows : (m : List ℕ) → IsCalling w d m → (o : Obj) (args : List Tree) (outcome : Outcome) → instance_behind w o.kind o.number ≡ None → IsHanded w (trees.object o) → AllByRecursion (IsHanded w) args → IfOk outcome (λ x. IsRule w None o m args x.0 x.1)
      → WorkShows (deliveries.target o args) (outcome_work outcome)
  row_shows m calling o args (Err e) alone target handed is = parts.none (deliveries.target o args) (refused e) w
  row_shows m calling o args (Ok (answer, es)) alone target handed is = parts.serves m calling o args answer es alone target handed is

  serve_done : (m : List ℕ) → IsCalling w d m → (o : Obj) (args : List Tree) → instance_behind w o.kind o.number ≡ None → IsHanded w (trees.object o) → AllByRecursion (IsHanded w) args → WorkShows (deliveries.target o args) (task_work read meter w (serve o m args))
  unfolding task_work
  serve_done m calling o args alone target handed = row_shows m calling o args (serve_call read w o m args) alone target handed (service_rule read w d o m args served good target handed)

  on_done : (m : List ℕ) → IsCalling w d m → (kind : ObjKind) (o : Obj) (args : List Tree) → o.kind ≡ kind → IsHanded w (trees.object o) → AllByRecursion (IsHanded w) args → WorkShows (deliveries.target o args) (task_work read meter w (task_on kind w o m args))
  on_done m calling kinds.Facet o args e target handed =
      let made : o.number < length w.facets = subst (λ k. made_as w k o.number) e target.objects in
      let runs : runs_in w d (deliveries.target o args) ≡ Some (facet_at w.facets o.number).instance = calling.runs o args ∙ ap (λ k. instance_behind w k o.number) e in
      facet_done (deliveries.target o args) (facet_at w.facets o.number) runs m args (all_read (IsFacet w) w.facets o.number no_facet whole.facets made) handed
  on_done m calling kind o args e target handed = serve_done m calling o args (ap (λ k. instance_behind w k o.number) e) target handed

  called_done : (m : List ℕ) → IsCalling w d m → (res : Result Addressed Refusal) → IfOk res (IsAddressed w whole) → BeginningShows (call_beginning w m res)
  called_done m calling (Ok a) is = on_done m calling a.target.kind a.target a.arguments refl is.target is.arguments
  called_done m calling (Err e) is = refused_shows deliveries.nothing e

  -- ---- what else is delivered

  give_done : (g : LineGift) (res : Result Tree Refusal) → BeginningShows (gift_beginning g res)
  give_done g (Ok x) = still_done (deliveries.gift x) (bind_label g.to g.label x) tt
  give_done g (Err e) = refused_shows deliveries.nothing e

  tick_done : (now : ℕ) (time : ℕ) → WorkShows deliveries.nothing (task_work read meter w (tick_task now time))
  tick_done now time = by (nat_lt time now)
    where
      by : (b : Bool) → WorkShows deliveries.nothing (task_work read meter w (cond b (refuse (Backwards now time)) (do_all (set_time time ∷ []))))
      by true = refused_shows deliveries.nothing (Backwards now time)
      by false = still_done deliveries.nothing (set_time time) tt

  deadline_done : (seat : ℕ) → d ≡ deliveries.deadline seat → WorkShows deliveries.nothing (task_work read meter w (do_all (exit_if_open w seat causes.deadline)))
  deadline_done seat is = all_done deliveries.nothing (exit_if_open w seat causes.deadline) (by (is_none (seat_at w.seats seat).last))
    where
      by : (b : Bool) → T deliveries.nothing (given trees.null) w (cond b (exit seat causes.deadline ∷ []) [])
      by true = parts.leaves deliveries.nothing (given trees.null) w seat causes.deadline (grows_itself w) (inr is)
      by false = parts.none deliveries.nothing (given trees.null) w

-- ---- each delivery

work_shows : (read : TextReader) (served : AreGoodServices (serve_call read)) (called : AreGoodHostCalls) (meter : ℕ) (w : State) (d : Delivery) (good : IsGoodWorld (in_front d w)) (T : Reading → Answer → State → List Effect → Type 0) (parts : Parts w d T)
    → BeginningShows read served called meter w d good T parts (beginning w d)
unfolding beginning
work_shows read served called meter w (deliveries.call c) good T parts =
    let d = deliveries.call c in
    let calling : IsCalling w d c.method = record { kind = λ o args. refl; on = λ o args. refl; method = refl; arguments = λ o args. refl; runs = λ o args. refl; moves = λ o args rows x is. is } in
    called_done read served called meter w d good T parts c.method calling (addressed w c)
    (weaker_ok (IsCalled w (good_behind w d good) c) (IsAddressed w (good_behind w d good)) (addressed w c) (λ a is. is.addressed_to) (addressed_there w (good_behind w d good) c (due_behind w d good)))
work_shows read served called meter w (deliveries.send s) good T parts =
    let d = deliveries.send s in
    let calling : IsCalling w d s.method = record { kind = λ o args. refl; on = λ o args. refl; method = refl; arguments = λ o args. refl; runs = λ o args. refl; moves = λ o args rows x is. is } in
    called_done read served called meter w d good T parts s.method calling (sent_to w s)
    (sent_there w (good_behind w d good) s (due_behind w d good))
work_shows read served called meter w (deliveries.give g) good T parts = give_done read served called meter w (deliveries.give g) good T parts g (gift_of w g)
work_shows read served called meter w (deliveries.tick time) good T parts = tick_done read served called meter w (deliveries.tick time) good T parts w.schedule.time time
work_shows read served called meter w (deliveries.bad r) good T parts = refused_shows read served called meter w (deliveries.bad r) good T parts deliveries.nothing r
work_shows read served called meter w (deliveries.start s) good T parts =
    let d = deliveries.start s in
    let due = due_behind w d good in
    task_done read served called meter w d good T parts deliveries.nothing (start_call s) refl due.made
    (object_formed w (Some s.instance) (record { kind = kinds.Zcf; number = s.instance }) refl, (handed_held w (Some s.instance) s.private_arguments due.arguments, tt))
work_shows read served called meter w (deliveries.offer o) good T parts =
    let d = deliveries.offer o in
    let due = due_behind w d good in
    task_done read served called meter w d good T parts deliveries.nothing (handler_call o) refl due.function.made
    (object_formed w (Some o.instance) (record { kind = kinds.Zseat; number = o.seat }) due.seat, (handed_held w (Some o.instance) o.offer_arguments due.arguments, (due.held, tt)))
work_shows read served called meter w (deliveries.wake x) good T parts =
    let d = deliveries.wake x in
    let due = due_behind w d good in
    task_done read served called meter w d good T parts (deliveries.time w.schedule.time) (wakeup_call x w.schedule.time) refl due.function.made
    (due.held, (number_known read served called meter w d good x.instance w.schedule.time, tt))
work_shows read served called meter w (deliveries.notify n) good T parts =
    let d = deliveries.notify n in
    let due = due_behind w d good in
    let s = settlement_of w n.promise in
    let told : IsHanded w (notice_tree s) = notice_handed read served called meter w d good s (settlement_handed w (good_behind w d good) n.promise due.notice.promise) in
    task_done read served called meter w d good T parts (deliveries.settlement s) (notice_call n s) refl due.notice.function.made
    (due.notice.held, (handed_held w (Some n.instance) (notice_tree s) told, tt))
work_shows read served called meter w (deliveries.deadline seat) good T parts = deadline_done read served called meter w (deliveries.deadline seat) good T parts seat refl

-- ---- a turn's end

module _ (w u : State) (grown : Grows w u) where
  publishes_show : (d : Delivery) (T : Reading → Answer → State → List Effect → Type 0) → Parts w d T → (r : Reading) (a : Answer) (v : State) → T r a v (publishes d a)
  publishes_show (deliveries.start s) T parts r (given x) v = parts.still r (given x) v (publish s.instance (part (codes "publicFacet") x)) tt
  publishes_show d T parts r a v = parts.none r a v

  settles_show : (d : Delivery) (T : Reading → Answer → State → List Effect → Type 0) → Parts w d T → (r : Reading) (a : Answer) (v : State) (fs : List Following) (p : Option ℕ) (s : SettlementView) → T r a v (settles fs p s)
  settles_show d T parts r a v fs None s = parts.none r a v
  settles_show d T parts r a v fs (Some p) s = parts.still r a v (resolve p (without_cycle fs p s)) tt

  -- the seats of the instance
  departs_show : (d : Delivery) (T : Reading → Answer → State → List Effect → Type 0) → Parts w d T → IsDue w d → (r : Reading) (a : Answer) (v : State) → Grows u v → T r a v (departs d a u)
  departs_show (deliveries.offer o) T parts due r (threw t) v later = by (is_none (seat_at u.seats o.seat).last)
    where
      by : (b : Bool) → T r (threw t) v (cond b (exit o.seat causes.threw ∷ []) [])
      by true = parts.leaves r (threw t) v o.seat causes.threw (grows_on w u v grown later) (inl (o.instance, (refl, seat_grows w v (grows_on w u v grown later) o.instance o.seat due.seat)))
      by false = parts.none r (threw t) v
  departs_show (deliveries.start s) T parts due r (threw t) v later = halts_show w (deliveries.start s) T parts r (threw t) s.instance refl causes.halted u v (grows_on w u v grown later) later
  departs_show d T parts due r a v later = parts.none r a v

  binds_show : (d : Delivery) (T : Reading → Answer → State → List Effect → Type 0) → Parts w d T → (r : Reading) (a : Answer) (v : State) → T r a v (binds d a)
  binds_show (deliveries.call c) T parts r (given t) v = by c.label
    where
      by : (l : Option (List ℕ)) → T r (given t) v (binds_to c.by l t)
      by None = parts.none r (given t) v
      by (Some label) = parts.still r (given t) v (bind_label c.by label t) tt
  binds_show d T parts r a v = parts.none r a v

  pub end_shows : (d : Delivery) (T : Reading → Answer → State → List Effect → Type 0) → Parts w d T → IsDue w d → (r : Reading) (a : Answer) → T r a u (ending d a u)
  unfolding ending
  end_shows d T parts due r a =
      let first = publishes d a in
      let second = settles u.promises.follows (promise_of d) (settled_after d a) in
      let third = departs d a u in
      let fourth = binds d a in
      let rest = end_staging ∷ [] in
      let u1 = after_all u first in
      let u2 = after_all u1 second in
      let u3 = after_all u2 third in
      let u4 = after_all u3 fourth in
      let later : Grows u u2 = grows_on u u1 u2 (all_grow u first) (all_grow u1 second) in
      parts.both r a u first (second ++ (third ++ (fourth ++ rest))) (publishes_show d T parts r a u)
      (parts.both r a u1 second (third ++ (fourth ++ rest)) (settles_show d T parts r a u1 u.promises.follows (promise_of d) (settled_after d a))
      (parts.both r a u2 third (fourth ++ rest) (departs_show d T parts due r a u2 later)
      (parts.both r a u3 fourth rest (binds_show d T parts r a u3) (parts.still r a u4 end_staging tt))))

-- ---- a whole turn

pub turn_shows : (read : TextReader) → AreGoodServices (serve_call read) → AreGoodHostCalls → (meter : ℕ) (w : State) (d : Delivery) → IsGoodWorld (in_front d w) → (T : Reading → Answer → State → List Effect → Type 0) → Parts w d T
    → let t = delivery_turn read meter w d in T t.reading t.answer w t.effects
unfolding delivery_turn
turn_shows read served called meter w d good T parts =
    let b = beginning w d in
    let work = task_work read meter w b.task in
    parts.both b.reading work.answer w work.effects (ending d work.answer (after_all w work.effects))
    (work_shows read served called meter w d good T parts)
    (end_shows w (after_all w work.effects) (all_grow w work.effects) d T parts (due_behind w d good) b.reading work.answer)
