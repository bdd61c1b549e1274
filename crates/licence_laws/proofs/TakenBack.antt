-- A turn that spends its meter is taken back.
use Rattle.std.specs.Prelude.{IfSome, cond, nat_lt}
use Rattle.std.specs.List.{AllByRecursion, flat_map}
use Rattle.std.proofs.Common.{◌≡◌, ◌⊎◌, inl, inr, ℕ, zero, suc, Bool, true, false, List, [], ◌∷◌, ◌++◌, Option, Some, None, Result, Ok, Err, length, map, refl, sym, ◌∙◌, ap, subst, append_assoc}
use Rattle.std.proofs.lemmas.Grind.{flat_map-append}
use Rattle.std.proofs.lemmas.List.{append-nil}
use Rattle.fair_laws.proofs.delivery_laws.Runs.{after_both}
use Rattle.fair_laws.proofs.rule_laws.OpenSeats.{all_are_open}
use Rattle.fair_laws.proofs.world_laws.Fronts.{begins, good_behind, in_hand}
use Rattle.fair_laws.proofs.world_laws.Lists.{all_append}
use Rattle.fair_laws.specs.delivery_laws.Hosts.{IsGoodHost}
use Rattle.fair_laws.specs.actors.Facets.{FacetView, facet_at}
use Rattle.fair_laws.specs.actors.Tables.{with_halted}
use Rattle.fair_laws.specs.delivery_turns.Endings.{ending, settles}
use Rattle.fair_laws.specs.delivery_turns.Functions.{FunctionCall, Run, ended, function_run, ran_out}
use Rattle.fair_laws.specs.delivery_turns.HostCalls.{answer_of}
use Rattle.fair_laws.specs.delivery_turns.Hosts.{HostState, Step, step_after, step_from, step_of, untold}
use Rattle.fair_laws.specs.delivery_turns.Messages.{Addressed, addressed, gift_of, sent_to}
use Rattle.fair_laws.specs.delivery_turns.Tasks as tasks
use Rattle.fair_laws.specs.delivery_turns.Tasks.{Task, Work, answer_of_ending, beginning, call_beginning, do_all, exit_if_open, exits_with, facet_task, function_behind, gift_beginning, halt_with, handler_call, method_task, notice_call, outcome_work, refuse, run_task, run_work, serve, settlement_of, start_call, task_on, task_work, tick_task, wakeup_call}
use Rattle.fair_laws.specs.delivery_turns.Turns.{delivery_turn, ended_turn}
use Rattle.fair_laws.specs.world_state.host_data.Tree.{Tree, is_local}
use Rattle.fair_laws.specs.world_state.host_data.declared.data.Obj.{Obj}
use Rattle.fair_laws.specs.world_state.host_data.declared.data.ObjKind.{ObjKind}
use Rattle.fair_laws.specs.world_state.host_data.declared.data.ObjKind.TheVariants as kinds
use Rattle.fair_laws.specs.world_state.proposals.declared.allocations.Share.{Share}
use Rattle.fair_laws.specs.world_state.promise_store.Linked.{LeadsTo}
use Rattle.fair_laws.specs.world_state.promise_store.States.{SettlementView, broken}
use Rattle.fair_laws.specs.world_state.refusals.Codes.{closed, local_only, no_method, refusal_tree}
use Rattle.fair_laws.specs.world_state.refusals.Codes as codes
use Rattle.fair_laws.specs.world_state.refusals.declared.codes.Refusal.{Refusal}
use Rattle.fair_laws.specs.world_state.refusals.declared.codes.Refusal.TheVariants.{Backwards}
use Rattle.fair_laws.specs.rules.Methods.{serve as serve_call}
use Rattle.fair_laws.specs.rules.Outcomes.{Outcome}
use Rattle.fair_laws.specs.rules.Traces.{all_open}
use Rattle.fair_laws.specs.rules.Words.{has_halted, standing_of}
use Rattle.fair_laws.specs.rules.Zoe.{TextReader}
use Rattle.fair_laws.specs.rule_laws.jessie_semantics.Play as plays
use Rattle.fair_laws.specs.rule_laws.jessie_semantics.Play.{Ending}
use Rattle.fair_laws.specs.world_state.turn_records.Deliveries as deliveries
use Rattle.fair_laws.specs.world_state.turn_records.Deliveries.{Delivery, Reading, promise_of}
use Rattle.fair_laws.specs.world_state.turn_records.Events.{Answer, Event, given, move_in, moves_in, spent, threw}
use Rattle.fair_laws.specs.world_state.turn_records.Messages.{LineGift}
use Rattle.fair_laws.specs.world_state.turn_rows.Causes as causes
use Rattle.fair_laws.specs.world_state.Good.{IsGoodWorld}
use Rattle.fair_laws.specs.world_state.Promises.{PromiseBook, cascade, flowing, settling}
use Rattle.fair_laws.specs.world_state.Worlds.{Effect, State, after, after_all, behind, bind_label, end_staging, halt, in_front, no_shares, resolve, set_time, staged_at}
use Rattle.licence_laws.specs.TakenBack.{AreSettled, AreTold, IsBySpentMeter, IsNoCall, IsByExit, IsSpentTurn, IsTakenBack, IsTakenBackWhere, SpentIsTakenBack, TellsExits, exit_in}
use Rattle.licence_laws.specs.Came.{instance_behind, runs_in}
use Rattle.licence_laws.proofs.SeatsLeft.{IsSettlement, IsWithout, all_left, none_told, settled_both, settlements_quiet, stays, steps_told, told_both}
use Rattle.licence_laws.proofs.Settling.{IsLed, settling_settles, settling_tells}

-- ---- how a spent turn ends

abbrev broken_by : ℕ → SettlementView
broken_by meter = broken (refusal_tree (codes.spent meter))

-- its promise is broken, and staging ends
ends : (d : Delivery) (meter : ℕ) (w : State) → ending d (spent meter) w ≡ settles w.promises.follows (promise_of d) (broken_by meter) ++ end_staging ∷ []
unfolding ending
ends (deliveries.call c) meter w = refl
ends (deliveries.send s) meter w = refl
ends (deliveries.give g) meter w = refl
ends (deliveries.tick t) meter w = refl
ends (deliveries.bad r) meter w = refl
ends (deliveries.start s) meter w = refl
ends (deliveries.offer o) meter w = refl
ends (deliveries.wake x) meter w = refl
ends (deliveries.notify n) meter w = refl
ends (deliveries.deadline seat) meter w = refl

unstaged : (ss : List (Option (List Share))) (s : ℕ) → staged_at (map no_shares ss) s ≡ None
unstaged [] s = refl
unstaged (x ∷ ss) zero = refl
unstaged (x ∷ ss) (suc s) = unstaged ss s

-- ---- what it comes to

module _ (w : State) (d : Delivery) (i meter : ℕ) (front : IsGoodWorld (in_front d w)) (fresh : w.log ≡ []) where
  abbrev seats : List ℕ
  seats = all_open w i

  -- once the seats are left, and the instance has halted
  abbrev without_seats : State
  without_seats = after_all w (exits_with causes.spent seats)

  abbrev halted : State
  halted = after without_seats (halt i)

  -- and the delivery's promise is broken
  abbrev broken_in : Option ℕ → State
  broken_in own = after_all halted (settles halted.promises.follows own (broken_by meter))

  abbrev spent_effects : List Effect
  spent_effects = halt_with causes.spent w i ++ ending d (spent meter) (after_all w (halt_with causes.spent w i))

  comes_to : after_all w spent_effects ≡ after (broken_in (promise_of d)) end_staging
  comes_to =
      let there = after_all w (halt_with causes.spent w i) in
      let at : there ≡ halted = after_both w (exits_with causes.spent seats) (halt i ∷ []) in
      after_both w (halt_with causes.spent w i) (ending d (spent meter) there)
      ∙ (ap (λ x. after_all x (ending d (spent meter) x)) at
      ∙ (ap (after_all halted) (ends d meter halted)
      ∙ after_both halted (settles halted.promises.follows (promise_of d) (broken_by meter)) (end_staging ∷ [])))

  left : IsWithout d w without_seats seats
  left = all_left d w i seats (all_are_open i w.seats) front

  abbrev whole : IsGoodWorld without_seats
  whole = good_behind without_seats d left.front

  -- the promise of the delivery is that of its turn's start
  broken_as : (own : Option ℕ) (q : ℕ) (u : SettlementView) → IsBySpentMeter w own meter q u → IsBySpentMeter without_seats own meter q u
  broken_as own q u is = record { promise = is.promise; is = is.is; leads = subst (λ fs. LeadsTo fs is.promise q) (sym left.promises.follows) is.leads; given = is.given }

  broken_of : (own : Option ℕ) (q : ℕ) (u : SettlementView) → IsBySpentMeter without_seats own meter q u → IsBySpentMeter w own meter q u
  broken_of own q u is = record { promise = is.promise; is = is.is; leads = subst (λ fs. LeadsTo fs is.promise q) left.promises.follows is.leads; given = is.given }

  -- the end of the turn, with these promises and what waits
  abbrev ended_with : PromiseBook → List Delivery → List Event → State
  ended_with b waiting log = after (record halted { promises = b; waiting = waiting; log = log }) end_staging

  pub record IsTakenBackWith (own : Option ℕ) (v : State) : Type 0 where
    pub back : IsTakenBack w (untold v) i own meter
    pub rows : TellsExits w seats v.log

  -- what is settled in all
  abbrev Both : Option ℕ → ℕ → SettlementView → Type 0
  Both own q u = IsByExit w seats q u ⊎ IsBySpentMeter w own meter q u

  packed : (own : Option ℕ) (b : PromiseBook) (waiting : List Delivery) (log added : List Event) → AreSettled without_seats.promises b (IsBySpentMeter without_seats own meter) → AreTold without_seats.promises b without_seats.waiting waiting
      → log ≡ without_seats.log ++ added → AllByRecursion IsSettlement added → IsTakenBackWith own (ended_with b waiting log)
  packed own b waiting log added settled told is only = record {
    back = record {
      brands = left.elsewhere.brands;
      makers = left.elsewhere.makers;
      purses = left.elsewhere.purses;
      out = left.elsewhere.out;
      invitations = left.elsewhere.invitations;
      facets = left.elsewhere.facets;
      labels = left.elsewhere.labels;
      schedule = left.elsewhere.schedule;
      tables = ap (with_halted i) left.elsewhere.tables;
      seats = record {
        left = left.seats.left;
        others = left.seats.others;
        empty = left.seats.empty;
        kept = left.seats.kept;
        payments = left.seats.payments;
        as_many = left.seats.as_many;
        slotted = left.seats.slotted;
      };
      pairs = left.elsewhere.pairs;
      staging = unstaged without_seats.staging;
      promises = settled_both w.promises without_seats.promises b (IsByExit w seats) (IsBySpentMeter without_seats own meter) (Both own) left.promises settled parts (λ q u says. inl says) (λ q u says. inr (broken_of own q u says));
      told = told_both w.promises without_seats.promises b w.waiting without_seats.waiting waiting left.told told
          (stays w.promises without_seats.promises b (IsByExit w seats) (IsBySpentMeter without_seats own meter) (Both own) left.promises settled parts (λ q u says. inl says) (λ q u says. inr (broken_of own q u says)));
      log = refl;
    };
    rows = subst (TellsExits w seats) (sym (is ∙ ap (λ l. l ++ added) (left.log ∙ ap (λ l. l ++ left.rows) fresh))) (record {
      quiet = all_append IsNoCall left.rows added left.tells.quiet quiet.2;
      exits = flat_map-append exit_in left.rows added ∙ (ap (λ l. flat_map exit_in left.rows ++ l) quiet.0 ∙ (append-nil (flat_map exit_in left.rows) ∙ left.tells.exits));
      moves = flat_map-append move_in left.rows added ∙ (ap (λ l. moves_in left.rows ++ l) quiet.1 ∙ (append-nil (moves_in left.rows) ∙ left.tells.moves));
    });
  }
    where
      parts : (q : ℕ) (u : SettlementView) → Both own q u → IsByExit w seats q u ⊎ IsBySpentMeter without_seats own meter q u
      parts q u (inl says) = inl says
      parts q u (inr says) = inr (broken_as own q u says)

      quiet : (flat_map exit_in added ≡ []) × (moves_in added ≡ []) × AllByRecursion IsNoCall added
      quiet = settlements_quiet added only

  none_own : (p : ℕ) → None ≡ Some p → ⊥
  none_own p e = cc

  same_own : (p q : ℕ) → Some p ≡ Some q → p ≡ q
  same_own p q e = cc

  by_own : (own : Option ℕ) → promise_of d ≡ own → IsTakenBackWith own (after (broken_in own) end_staging)
  by_own None is =
      packed None without_seats.promises without_seats.waiting without_seats.log [] record {
        settled = λ q u says. absurd (none_own says.promise says.is);
        first = λ q u says. absurd (none_own says.promise says.is);
        others = λ q none. refl;
        made = refl;
        follows = refl;
      }
      (none_told without_seats.promises without_seats.waiting whole.asked) (sym (append-nil without_seats.log)) tt
  by_own (Some p) is =
      let mine = in_hand without_seats d p left.front is in
      let given = broken_by meter in
      let b = without_seats.promises in
      let one = settling_settles b p given without_seats.waiting without_seats.log whole.following mine.pending in
      let steps = steps_told given (cascade (length b.settled) b.follows p) (flowing b without_seats.waiting without_seats.log) in
      packed (Some p) (settling p given b without_seats.waiting without_seats.log).promises (settling p given b without_seats.waiting without_seats.log).waiting (settling p given b without_seats.waiting without_seats.log).log steps.added record {
        settled = λ q u says. one.settled q u (led q u says);
        first = λ q u says. one.first q u (led q u says);
        others = λ q none. one.others q (λ u says. none u (record { promise = p; is = refl; leads = says.leads; given = says.given }));
        made = one.made;
        follows = one.follows;
      }
      (settling_tells b p given without_seats.waiting without_seats.log whole.following mine.pending whole.asked (settling p given b without_seats.waiting without_seats.log).waiting refl) steps.is steps.only
    where
      led : (q : ℕ) (u : SettlementView) → IsBySpentMeter without_seats (Some p) meter q u → IsLed without_seats.promises p (broken_by meter) q u
      led q u says = record { leads = subst (λ k. LeadsTo without_seats.promises.follows k q) (sym (same_own p says.promise says.is)) says.leads; given = says.given }

  pub taken_back : IsTakenBackWith (promise_of d) (after_all w spent_effects)
  taken_back = subst (IsTakenBackWith (promise_of d)) (sym comes_to) (by_own (promise_of d) refl)

-- ---- whatever is delivered

module _ (read : TextReader) (s : HostState) (d : Delivery) (front : IsGoodWorld (in_front d (behind s.world))) (fresh : s.world.log ≡ []) where
  abbrev start : State
  start = behind s.world

  abbrev Done : Reading → Task → Type 0
  Done r task =
      let work = task_work read s.meter start task in
      IsTakenBackWhere work.answer s (step_after s d (ended_turn start d r work))

  -- what returns or throws isn't spent
  not_spent : (e : Ending) (step : Step) → IsTakenBackWhere (answer_of_ending e) s step
  not_spent (plays.returned v) step = by (is_local v)
    where
      by : (b : Bool) → IsTakenBackWhere (cond b (threw (refusal_tree local_only)) (given v)) s step
      by true = tt
      by false = tt
  not_spent (plays.threw v) step = by (is_local v)
    where
      by : (b : Bool) → IsTakenBackWhere (cond b (threw (refusal_tree local_only)) (threw v)) s step
      by true = tt
      by false = tt

  ran_done : (r : Reading) (i : ℕ) → runs_in start d r ≡ Some i → (x : Run) → IsTakenBackWhere (run_work s.meter start i x).answer s (step_after s d (ended_turn start d r (run_work s.meter start i x)))
  ran_done r i called (ended e values es) = not_spent e _
  ran_done r i called ran_out =
      let is = taken_back start d i s.meter front fresh in
      record { instance = i; ran = called; host = refl; back = is.back; rows = is.rows }

  run_done : (r : Reading) (c : FunctionCall) → runs_in start d r ≡ Some c.instance → Done r (tasks.run c)
  unfolding task_work
  run_done r c called = ran_done r c.instance called (function_run s.meter start c)

  refused_done : (r : Reading) (x : Refusal) → Done r (refuse x)
  unfolding task_work
  refused_done r x = tt

  all_done : (r : Reading) (es : List Effect) → Done r (do_all es)
  unfolding task_work
  all_done r es = tt

  task_done : (r : Reading) (c : FunctionCall) → runs_in start d r ≡ Some c.instance → Done r (run_task start c)
  task_done r c called = by (has_halted (standing_of start c.instance))
    where
      by : (b : Bool) → Done r (cond b (refuse (closed c.instance)) (tasks.run c))
      by true = refused_done r (closed c.instance)
      by false = run_done r c called

  -- ---- calls

  method_done : (r : Reading) (f : FacetView) (method : List ℕ) (args : List Tree) (o : Option (List ℕ)) → runs_in start d r ≡ Some f.instance → Done r (method_task f method args o)
  method_done r f method args None called = refused_done r (no_method method)
  method_done r f method args (Some g) called = run_done r (record { instance = f.instance; function = g; arguments = f.held ∷ args }) called

  facet_done : (r : Reading) (f : FacetView) (method : List ℕ) (args : List Tree) → runs_in start d r ≡ Some f.instance → Done r (facet_task start f method args)
  facet_done r f method args called = by (has_halted (standing_of start f.instance))
    where
      by : (b : Bool) → Done r (cond b (refuse (closed f.instance)) (method_task f method args (function_behind method f)))
      by true = refused_done r (closed f.instance)
      by false = method_done r f method args (function_behind method f) called

  served_done : (r : Reading) (row : Outcome) (step : Step) → IsTakenBackWhere (answer_of row) s step
  served_done r (Ok (answer, es)) step = tt
  served_done r (Err x) step = tt

  serve_done : (r : Reading) (o : Obj) (method : List ℕ) (args : List Tree) → Done r (serve o method args)
  unfolding task_work
  serve_done r o method args = served_done r (serve_call read start o method args) _

  on_done : (r : Reading) (k : ObjKind) (o : Obj) (method : List ℕ) (args : List Tree) → (runs_in start d r ≡ instance_behind start k o.number) → Done r (task_on k start o method args)
  on_done r kinds.Facet o method args called = facet_done r (facet_at start.facets o.number) method args called
  on_done r k o method args called = serve_done r o method args

  called_done : (method : List ℕ) (r : Result Addressed Refusal) → ((a : Addressed) → runs_in start d (deliveries.target a.target a.arguments) ≡ instance_behind start a.target.kind a.target.number)
      → let b = call_beginning start method r in Done b.reading b.task
  called_done method (Ok a) called = on_done (deliveries.target a.target a.arguments) a.target.kind a.target method a.arguments (called a)
  called_done method (Err x) called = refused_done deliveries.nothing x

  gift_done : (g : LineGift) (r : Result Tree Refusal) → let b = gift_beginning g r in Done b.reading b.task
  gift_done g (Ok t) = all_done (deliveries.gift t) (bind_label g.to g.label t ∷ [])
  gift_done g (Err x) = refused_done deliveries.nothing x

  tick_done : (t : ℕ) (b : Bool) → Done deliveries.nothing (cond b (refuse (Backwards start.schedule.time t)) (do_all (set_time t ∷ [])))
  tick_done t true = refused_done deliveries.nothing (Backwards start.schedule.time t)
  tick_done t false = all_done deliveries.nothing (set_time t ∷ [])

-- ---- each delivery

done : (read : TextReader) (s : HostState) (d : Delivery) (front : IsGoodWorld (in_front d (behind s.world))) (fresh : s.world.log ≡ [])
    → let b = beginning (behind s.world) d in Done read s d front fresh b.reading b.task
unfolding beginning
done read s (deliveries.call c) front fresh = called_done read s (deliveries.call c) front fresh c.method (addressed (behind s.world) c) (λ a. refl)
done read s (deliveries.send x) front fresh = called_done read s (deliveries.send x) front fresh x.method (sent_to (behind s.world) x) (λ a. refl)
done read s (deliveries.give g) front fresh = gift_done read s (deliveries.give g) front fresh g (gift_of (behind s.world) g)
done read s (deliveries.tick t) front fresh = tick_done read s (deliveries.tick t) front fresh t (nat_lt t s.world.schedule.time)
done read s (deliveries.bad x) front fresh = refused_done read s (deliveries.bad x) front fresh deliveries.nothing x
done read s (deliveries.start x) front fresh = task_done read s (deliveries.start x) front fresh deliveries.nothing (start_call x) refl
done read s (deliveries.offer o) front fresh = task_done read s (deliveries.offer o) front fresh deliveries.nothing (handler_call o) refl
done read s (deliveries.wake x) front fresh = task_done read s (deliveries.wake x) front fresh (deliveries.time s.world.schedule.time) (wakeup_call x s.world.schedule.time) refl
done read s (deliveries.notify n) front fresh =
    let u = settlement_of (behind s.world) n.promise in
    task_done read s (deliveries.notify n) front fresh (deliveries.settlement u) (notice_call n u) refl
done read s (deliveries.deadline seat) front fresh = all_done read s (deliveries.deadline seat) front fresh deliveries.nothing (exit_if_open (behind s.world) seat causes.deadline)

step_done : (read : TextReader) (s : HostState) (d : Delivery) (ds : List Delivery) → s.world.waiting ≡ d ∷ ds → IsGoodHost s → SpentIsTakenBack s (step_after s d (delivery_turn read s.meter (behind s.world) d))
unfolding delivery_turn
step_done read s d ds waits host = done read s d (subst IsGoodWorld (begins s.world d ds waits) host.world) host.untold

from_done : (read : TextReader) (s : HostState) (ws : List Delivery) → s.world.waiting ≡ ws → IsGoodHost s → IfSome (step_from read s ws) (SpentIsTakenBack s)
from_done read s [] waits host = tt
from_done read s (d ∷ ds) waits host = step_done read s d ds waits host

pub spent_is_taken_back : (read : TextReader) (s : HostState) → IsGoodHost s → IfSome (step_of read s) (SpentIsTakenBack s)
unfolding step_of
spent_is_taken_back read s host = from_done read s s.world.waiting refl host
