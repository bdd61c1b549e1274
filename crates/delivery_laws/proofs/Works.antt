-- What is done for each delivery is good, leaves the delivery's promise to its end, and is answered with what can be
-- handed out.
use Rattle.std.specs.Prelude.{IfOk, IfSome, cond, is_none, nat_lt, unwrap_or, codes}
use Rattle.std.specs.List.{AllByRecursion}
use Rattle.std.proofs.Common.{◌≡◌, ℕ, ◌-◌, ◌<◌, Bool, true, false, List, [], ◌∷◌, ◌++◌, Option, Some, None, Result, Ok, Err, length, refl, sym, ap, ◌∙◌, subst, arith}
use Rattle.std.proofs.lemmas.Bool.{ltb-false, ltb-true}
use Rattle.delivery_turns.specs.actors.Labels.{bound_to}
use Rattle.turn_writer.specs.host_data.Values.{number_tree}
use Rattle.delivery_turns.specs.rules.Obligations.{IsRule}
use Rattle.delivery_turns.specs.rules.Outcomes.{Outcome}
use Rattle.delivery_turns.specs.rules.Traces.{all_open}
use Rattle.delivery_turns.specs.rules.Words.{has_halted, standing_of}
use Rattle.rule_laws.proofs.Fields.{FormedAt, formed_here, record_formed}
use Rattle.rule_laws.proofs.Forms.{null_formed, object_formed}
use Rattle.rule_laws.proofs.Shown.{handed_held}
use Rattle.delivery_turns.specs.actors.Facets.{FacetView, facet_at, no_facet}
use Rattle.delivery_turns.specs.actors.Tables.{instance_at}
use Rattle.rule_laws.specs.jessie_semantics.Keeping.{AllHave, EndingHas}
use Rattle.rule_laws.specs.jessie_semantics.Play as plays
use Rattle.rule_laws.specs.jessie_semantics.Play.{Ending}
use Rattle.rule_laws.specs.jessie_grammar.Syntax.{variable_names}
use Rattle.rule_laws.specs.jessie_grammar.declared.syntax.Module.{Module}
use Rattle.turn_writer.specs.host_data.Tree as trees
use Rattle.turn_writer.proofs.host_data.Nodes.{shallow}
use Rattle.delivery_turns.specs.turn_records.Printable.{most_nested}
use Rattle.turn_writer.specs.host_data.Tree.{Tree, is_local, nesting, null}
use Rattle.turn_writer.specs.host_data.declared.data.Obj.{Obj}
use Rattle.turn_writer.specs.host_data.declared.data.ObjKind.{ObjKind}
use Rattle.turn_writer.specs.host_data.declared.data.ObjKind.TheVariants as kinds
use Rattle.delivery_turns.specs.promise_store.States.{SettlementView, broken, ok}
use Rattle.turn_writer.specs.refusals.Codes.{closed, local_only, no_method, refusal_tree}
use Rattle.turn_writer.specs.refusals.declared.codes.Refusal.{Refusal}
use Rattle.turn_writer.specs.refusals.declared.codes.Refusal.TheVariants.{Backwards}
use Rattle.delivery_turns.specs.rules.Zoe.{TextReader}
use Rattle.rule_laws.specs.GoodServices.{AreGoodServices}
use Rattle.delivery_turns.specs.turn_records.Deliveries as deliveries
use Rattle.delivery_turns.specs.turn_records.Deliveries.{Delivery}
use Rattle.delivery_turns.specs.turn_records.Events.{Answer, given, refused, spent, threw}
use Rattle.delivery_turns.specs.turn_records.Messages.{LineGift}
use Rattle.delivery_turns.specs.turn_records.Printed.{notice_tree, told_value}
use Rattle.delivery_turns.specs.turn_rows.Causes as causes
use Rattle.delivery_turns.specs.world_state.Good.{AreGood, CanKeep, IsFacet, IsGoodWorld, IsSettled, IsSettling, LeavesAnswer}
use Rattle.delivery_turns.specs.world_state.Known.{Grows, IsHanded, IsKnownTo, made_as, module_of}
use Rattle.delivery_turns.specs.turn_rows.Form.{times_end}
use Rattle.delivery_turns.specs.world_state.Promises.{no_promise, settlement_at}
use Rattle.delivery_turns.specs.world_state.Worlds.{Effect, State, after, after_all, bind_label, end_staging, exit, halt, in_front, keep_state, note_call, resolve, seat_at, set_time}
use Rattle.rule_laws.proofs.world_laws.Forms.{formed_grows, module_stays}
use Rattle.rule_laws.proofs.world_laws.Fronts.{due_behind, front-after_all, good_behind}
use Rattle.rule_laws.proofs.world_laws.Growing.{grows-after}
use Rattle.rule_laws.proofs.world_laws.Kept.{good-after_all}
use Rattle.rule_laws.proofs.world_laws.Lists.{all_read, all_read_or, length_map}
use Rattle.delivery_turns.specs.rules.Methods.{serve as serve_call}
use Rattle.delivery_turns.specs.Functions.{FunctionCall, Run, ended, function_run, module_play, ran_out, run}
use Rattle.delivery_turns.specs.Endings.{ending}
use Rattle.delivery_turns.specs.Messages.{Addressed, addressed, gift_of, sent_to}
use Rattle.delivery_turns.specs.Tasks.{Task, answer_of_ending, beginning, call_beginning, do_all, exit_if_open, exits_with, facet_task, function_behind, gift_beginning, halt_with, handler_call, method_task, notice_call, refuse, outcome_work, run_task, run_work, serve, settlement_of, start_call, task_on, task_work, tick_task, wakeup_call}
use Rattle.delivery_turns.specs.Turns.{delivery_turn}
use Rattle.delivery_turns.specs.Tasks as tasks
use Rattle.delivery_laws.specs.Works.{AreGoodHostCalls, CanPrintNote, IsEnded, IsOfCall, IsOut, IsRun, IsTurnWork, LabelIsFree}
use Rattle.delivery_laws.proofs.Asking.{all_have, evaluates, have_all}
use Rattle.delivery_laws.proofs.Ends.{ending_good, halts_good, open_there}
use Rattle.delivery_laws.proofs.Knowing.{handed_of}
use Rattle.delivery_laws.proofs.Replies.{calm_acts, refusal_formed}
use Rattle.delivery_laws.proofs.Reading.{IsAddressed, IsCalled, IsGift, addressed_there, gift_there, loose_of, sent_there, weaker_ok}
use Rattle.delivery_laws.proofs.Runs.{after_both, all_grow, calm_both, good_both, grows_itself, run_is}

-- ---- effects of calls leave labels and the delivery's promise

calm_leaves : (d : Delivery) (e : Effect) → IsOfCall e → LeavesAnswer d e
calm_leaves d (resolve p v) calm = absurd calm
calm_leaves d e calm = tt

all_leave : (d : Delivery) (es : List Effect) → AllByRecursion IsOfCall es → AllByRecursion (LeavesAnswer d) es
all_leave d [] calm = tt
all_leave d (e ∷ es) calm = (calm_leaves d e calm.0, all_leave d es calm.1)

labels_stay : (w : State) (e : Effect) → IsOfCall e → (after w e).labels ≡ w.labels
labels_stay w (bind_label party label value) calm = absurd calm
labels_stay w e calm = refl

all_labels_stay : (w : State) (es : List Effect) → AllByRecursion IsOfCall es → (after_all w es).labels ≡ w.labels
all_labels_stay w [] calm = refl
all_labels_stay w (e ∷ es) calm = all_labels_stay (after w e) es calm.1 ∙ labels_stay w e calm.0

-- the label that a call wants is free before, so it is after
abbrev WantsFree : State → Delivery → Type 0
WantsFree w (deliveries.call c) = IfSome c.label (λ l. bound_to w.labels c.by l ≡ None)
WantsFree w _ = Unit {0}

free_then : (u w : State) (d : Delivery) (a : Answer) → u.labels ≡ w.labels → WantsFree w d → LabelIsFree u d a
free_then u w (deliveries.call c) (given t) same free = subst (λ bs. IfSome c.label (λ l. bound_to bs c.by l ≡ None)) (sym same) free
free_then u w d a same free = tt

calm_tells : (e : Effect) → IsOfCall e → CanPrintNote e
calm_tells (note_call c) calm = calm
calm_tells e calm = tt

all_tell : (es : List Effect) → AllByRecursion IsOfCall es → AllByRecursion CanPrintNote es
all_tell [] calm = tt
all_tell (e ∷ es) calm = (calm_tells e calm.0, all_tell es calm.1)

calm_work : (w : State) (d : Delivery) (a : Answer) (es : List Effect) → IsGoodWorld (in_front d w) → WantsFree w d → AreGood w es → AllByRecursion IsOfCall es → IsOut (after_all w es) a
    → IsTurnWork w d (record { answer = a; effects = es })
calm_work w d a es good free are calm out = record {
  good = are;
  front = front-after_all w d es are (all_leave d es calm) good;
  out = out;
  free = free_then (after_all w es) w d a (all_labels_stay w es calm) free;
  told = all_tell es calm;
}

-- ---- the host's own objects

served_work : (w : State) (d : Delivery) (o : Obj) (m : List ℕ) (args : List Tree) (row : Outcome) → IsGoodWorld (in_front d w) → WantsFree w d → IfOk row (λ x. IsRule w None o m args x.0 x.1) → IsTurnWork w d (outcome_work row)
served_work w d o m args (Err r) good free is = calm_work w d (refused r) [] good free tt tt tt
served_work w d o m args (Ok (answer, es)) good free is =
    calm_work w d (given answer) es good free is.good (calm_acts w None o m es is.acts) is.known

pub service_rule : (read : TextReader) (w : State) (d : Delivery) (o : Obj) (m : List ℕ) (args : List Tree) → AreGoodServices (serve_call read) → IsGoodWorld (in_front d w)
    → IsHanded w (trees.object o) → AllByRecursion (IsHanded w) args → IfOk (serve_call read w o m args) (λ x. IsRule w None o m args x.0 x.1)
service_rule read w d o m args served good target handed =
    served w o m args (record {
      good = good_behind w d good;
      hosted = tt;
      target = target.objects;
      arguments = λ place. all_read_or (IsHanded w) args (place - 1) trees.null handed (null_formed w None);
    })

pub service_work : (read : TextReader) (w : State) (d : Delivery) (o : Obj) (m : List ℕ) (args : List Tree) → AreGoodServices (serve_call read) → IsGoodWorld (in_front d w) → WantsFree w d
    → IsHanded w (trees.object o) → AllByRecursion (IsHanded w) args → IsTurnWork w d (outcome_work (serve_call read w o m args))
service_work read w d o m args served good free target handed =
    served_work w d o m args (serve_call read w o m args) good free (service_rule read w d o m args served good target handed)

-- ---- functions

-- what stays with its instance is thrown as LocalOnly, all else comes out
ending_out : (w : State) (i : ℕ) (e : Ending) → EndingHas (IsKnownTo w i) e → IsOut w (answer_of_ending e)
ending_out w i (plays.returned v) known = by (is_local v) refl
  where
    by : (b : Bool) → is_local v ≡ b → IsOut w (cond b (threw (refusal_tree local_only)) (given v))
    by true is = refusal_formed w None local_only
    by false is = handed_of w i v is known
ending_out w i (plays.threw v) known = by (is_local v) refl
  where
    by : (b : Bool) → is_local v ≡ b → IsOut w (cond b (threw (refusal_tree local_only)) (threw v))
    by true is = refusal_formed w None local_only
    by false is = handed_of w i v is known

out_grows : (u v : State) (a : Answer) → Grows u v → IsOut u a → IsOut v a
out_grows u v (given t) g out = formed_grows u v g None t out
out_grows u v (threw t) g out = formed_grows u v g None t out
out_grows u v (refused r) g out = tt
out_grows u v (spent meter) g out = tt

module _ (w : State) (d : Delivery) (i meter : ℕ) (good : IsGoodWorld (in_front d w)) (free : WantsFree w d) (made : i < length w.tables.instances) where
  whole : IsGoodWorld w
  whole = good_behind w d good

  ended_work : (e : Ending) (values : List Tree) (es : List Effect) → IsEnded w i (length (variable_names (module_of w.tables i))) e values es → IsTurnWork w d (run_work meter w i (ended e values es))
  ended_work e values es is =
      let u = after_all w es in
      let grown : Grows w u = all_grow w es in
      let after_good : IsGoodWorld u = good-after_all w es is.good whole in
      let here : i < length u.tables.instances = omega (arith, made, grown.instances.more) in
      let m = module_of w.tables i in
      let stays : module_of u.tables i ≡ m = module_stays w u grown i made (whole.instances.each i made).installed in
      let many : length values ≡ length (instance_at u.tables.instances i).state =
      is.many ∙ length_map (λ v. v.name) m.variables ∙ sym (ap (λ (x : Module). length x.variables) stays) ∙ sym (after_good.instances.each i here).whole in
      let can : CanKeep u i values = record { made = here; as_many = many; known = all_have (IsKnownTo u i) values is.kept } in
      calm_work w d (answer_of_ending e) (es ++ keep_state i values ∷ []) good free (good_both w es (keep_state i values ∷ []) is.good (can, tt)) (calm_both es (keep_state i values ∷ []) is.calm (tt, tt))
      (subst (λ (x : State). IsOut x (answer_of_ending e)) (sym (after_both w es (keep_state i values ∷ [])))
      (out_grows u (after u (keep_state i values)) (answer_of_ending e) (grows-after u (keep_state i values)) (ending_out u i e is.ending)))

  first_good : (v : State) (es fs : List Effect) → AreGood v (es ++ fs) → AreGood v es
  first_good v [] fs are = tt
  first_good v (e ∷ es) fs are = (are.0, first_good (after v e) es fs are.1)

  calm_halts : (ns : List ℕ) → AllByRecursion IsOfCall (exits_with causes.spent ns ++ halt i ∷ [])
  calm_halts [] = (tt, tt)
  calm_halts (n ∷ ns) = (tt, calm_halts ns)

  spent_work : IsTurnWork w d (run_work meter w i ran_out)
  spent_work =
      calm_work w d (spent meter) (halt_with causes.spent w i) good free (first_good w (halt_with causes.spent w i) (end_staging ∷ []) (halts_good w i causes.spent made)) (calm_halts (all_open w i)) tt

  ran_work : (r : Run) → IsRun w i (length (variable_names (module_of w.tables i))) r → IsTurnWork w d (run_work meter w i r)
  ran_work (ended e values es) is = ended_work e values es is
  ran_work ran_out is = spent_work

-- ---- what promises were settled with

settled_read : (w : State) (o : Option SettlementView) → IsSettled w o → IsSettling w (unwrap_or o (broken null))
settled_read w None is = null_formed w None
settled_read w (Some s) is = is.handed

pub settlement_handed : (w : State) → IsGoodWorld w → (p : ℕ) → p < length w.promises.settled → IsSettling w (settlement_of w p)
settlement_handed w good p made = settled_read w (settlement_at w.promises.settled p) (all_read (IsSettled w) w.promises.settled p no_promise good.settled made)

module _ (read : TextReader) (served : AreGoodServices (serve_call read)) (called : AreGoodHostCalls) (meter : ℕ) (w : State) (d : Delivery) (good : IsGoodWorld (in_front d w)) where
  abbrev Done : Task → Type 0
  Done task = IsTurnWork w d (task_work read meter w task)

  abbrev this_whole : IsGoodWorld w
  this_whole = good_behind w d good

  refused_free : (e : Delivery) (r : Refusal) → LabelIsFree w e (refused r)
  refused_free (deliveries.call c) r = tt
  refused_free e r = tt

  refused_done : (r : Refusal) → Done (refuse r)
  unfolding task_work
  refused_done r = record { good = tt; front = good; out = tt; free = refused_free d r; told = tt }

  run_done : (c : FunctionCall) → WantsFree w d → c.instance < length w.tables.instances → AllHave (IsKnownTo w c.instance) c.arguments → Done (tasks.run c)
  unfolding task_work function_run
  run_done c free made known =
      let m = module_of w.tables c.instance in
      let values = (instance_at w.tables.instances c.instance).state in
      let kept : AllHave (IsKnownTo w c.instance) values = have_all (IsKnownTo w c.instance) values (this_whole.instances.each c.instance made).state in
      let p = module_play m c.function c.arguments values meter in
      let asks = evaluates w c.instance this_whole made c.function c.arguments values meter known kept in
      ran_work w d c.instance meter good free made (run w c.instance p)
      (run_is called w c.instance (length (variable_names m)) made p asks p [] w refl this_whole (grows_itself w) tt)

  task_done : (c : FunctionCall) → WantsFree w d → c.instance < length w.tables.instances → AllHave (IsKnownTo w c.instance) c.arguments → Done (run_task w c)
  task_done c free made known = by (has_halted (standing_of w c.instance))
    where
      by : (b : Bool) → Done (cond b (refuse (closed c.instance)) (tasks.run c))
      by true = refused_done (closed c.instance)
      by false = run_done c free made known

  -- ---- calls

  pub known_all : (i : ℕ) (ts : List Tree) → AllByRecursion (IsHanded w) ts → AllHave (IsKnownTo w i) ts
  known_all i [] h = tt
  known_all i (t ∷ ts) h = (handed_held w (Some i) t h.0, known_all i ts h.1)

  method_done : (f : FacetView) (method : List ℕ) (args : List Tree) (o : Option (List ℕ)) → IsFacet w f → WantsFree w d → AllByRecursion (IsHanded w) args → Done (method_task f method args o)
  method_done f method args None is free handed = refused_done (no_method method)
  method_done f method args (Some g) is free handed = run_done (record { instance = f.instance; function = g; arguments = f.held ∷ args }) free is.made (is.held, known_all f.instance args handed)

  facet_done : (f : FacetView) (method : List ℕ) (args : List Tree) → IsFacet w f → WantsFree w d → AllByRecursion (IsHanded w) args → Done (facet_task w f method args)
  facet_done f method args is free handed = by (has_halted (standing_of w f.instance))
    where
      by : (b : Bool) → Done (cond b (refuse (closed f.instance)) (method_task f method args (function_behind method f)))
      by true = refused_done (closed f.instance)
      by false = method_done f method args (function_behind method f) is free handed

  serve_done : (o : Obj) (method : List ℕ) (args : List Tree) → WantsFree w d → IsHanded w (trees.object o) → AllByRecursion (IsHanded w) args → Done (serve o method args)
  unfolding task_work
  serve_done o method args free target handed = service_work read w d o method args served good free target handed

  on_done : (k : ObjKind) (o : Obj) (method : List ℕ) (args : List Tree) → o.kind ≡ k → WantsFree w d → IsHanded w (trees.object o) → AllByRecursion (IsHanded w) args → Done (task_on k w o method args)
  on_done kinds.Facet o method args e free target handed =
      let made : o.number < length w.facets = subst (λ k. made_as w k o.number) e target.objects in
      facet_done (facet_at w.facets o.number) method args (all_read (IsFacet w) w.facets o.number no_facet this_whole.facets made) free handed
  on_done k o method args e free target handed = serve_done o method args free target handed

  called_done : (method : List ℕ) (r : Result Addressed Refusal) → IfOk r (λ a. WantsFree w d × IsAddressed w this_whole a) → Done (call_beginning w method r).task
  called_done method (Ok a) is = on_done a.target.kind a.target method a.arguments refl is.0 is.1.target is.1.arguments
  called_done method (Err r) is = refused_done r

  -- ---- what else is delivered

  effects_done : (es : List Effect) → AreGood w es → AllByRecursion (LeavesAnswer d) es → LabelIsFree (after_all w es) d (given null) → AllByRecursion CanPrintNote es → Done (do_all es)
  unfolding task_work
  effects_done es are leave free told = record { good = are; front = front-after_all w d es are leave good; out = null_formed _ None; free = free; told = told }

  give_done : (g : LineGift) (r : Result Tree Refusal) → d ≡ deliveries.give g → IfOk r (IsGift w this_whole g) → Done (gift_beginning g r).task
  give_done g (Ok t) e is =
      effects_done (bind_label g.to g.label t ∷ []) (record { free = is.free; handed = is.handed }, tt) (tt, tt) (gift_free e) (tt, tt)
    where
      gift_free : d ≡ deliveries.give g → LabelIsFree (after_all w (bind_label g.to g.label t ∷ [])) d (given null)
      gift_free e = subst (λ x. LabelIsFree (after_all w (bind_label g.to g.label t ∷ [])) x (given null)) (sym e) tt
  give_done g (Err r) e is = refused_done r

  tick_done : (t : ℕ) → d ≡ deliveries.tick t → t < times_end → Done (tick_task w.schedule.time t)
  tick_done t e timely = by (nat_lt t w.schedule.time) refl
    where
      by : (b : Bool) → nat_lt t w.schedule.time ≡ b → Done (cond b (refuse (Backwards w.schedule.time t)) (do_all (set_time t ∷ [])))
      by true is = refused_done (Backwards w.schedule.time t)
      by false is =
          effects_done (set_time t ∷ []) (record { later = ltb-false t w.schedule.time is; timely = timely }, tt) (tt, tt)
          (subst (λ x. LabelIsFree (after_all w (set_time t ∷ [])) x (given null)) (sym e) tt) (tt, tt)

  deadline_done : (seat : ℕ) → d ≡ deliveries.deadline seat → Done (do_all (exit_if_open w seat causes.deadline))
  deadline_done seat e = by (is_none (seat_at w.seats seat).last) refl
    where
      by : (b : Bool) → is_none (seat_at w.seats seat).last ≡ b → Done (do_all (cond b (exit seat causes.deadline ∷ []) []))
      by true is = effects_done (exit seat causes.deadline ∷ []) (open_there (seat_at w.seats seat).last is, tt) (tt, tt) (subst (λ x. LabelIsFree (after_all w (exit seat causes.deadline ∷ [])) x (given null)) (sym e) tt) (tt, tt)
      by false is = effects_done [] tt tt (subst (λ x. LabelIsFree w x (given null)) (sym e) tt) tt

  -- ---- what functions are called with

  pub number_known : (i n : ℕ) → IsKnownTo w i (number_tree n)
  number_known i n = record { objects = tt; functions = tt; named = tt; ordered = tt; shallow = tt }

  told_at : (t : Tree) → IsHanded w t → FormedAt w None 1 (told_value t)
  told_at t is = by (nat_lt (nesting t) most_nested) refl
    where
      by : (b : Bool) → nat_lt (nesting t) most_nested ≡ b → FormedAt w None 1 (cond b t null)
      by true low =
          let there = loose_of w 1 t is in
          let less = ltb-true _ _ low in
          record { objects = there.objects; functions = there.functions; named = there.named; ordered = there.ordered; shallow = shallow 32 1 t (omega (arith, less)) }
      by false low = record { objects = tt; functions = tt; named = tt; ordered = tt; shallow = tt }

  notice_fields_handed : (b : Bool) (t : Tree) → IsHanded w t → IsHanded w (trees.fields (trees.field (codes "ok") (trees.boolean b) (trees.field (codes "value") (told_value t) trees.no_fields)))
  notice_fields_handed b t is =
      let value = told_at t is in
      formed_here w None _ (record_formed w None 0 _ (omega arith) (record {
        objects = (tt, (value.objects, tt));
        functions = (tt, (value.functions, tt));
        names = (refl, (refl, tt));
        named = (tt, (value.named, tt));
        order = (refl, (tt, tt));
        ordered = (tt, (value.ordered, tt));
        shallow = (tt, (value.shallow, tt));
      }))

  pub notice_handed : (s : SettlementView) → IsSettling w s → IsHanded w (notice_tree s)
  notice_handed (ok t) is = notice_fields_handed true t is
  notice_handed (broken t) is = notice_fields_handed false t is

-- ---- each delivery

pub work_is : (read : TextReader) (served : AreGoodServices (serve_call read)) (called : AreGoodHostCalls) (meter : ℕ) (w : State) (d : Delivery) → IsGoodWorld (in_front d w)
    → IsTurnWork w d (task_work read meter w (beginning w d).task)
unfolding beginning
work_is read served called meter w (deliveries.call c) good =
    let d = deliveries.call c in
    called_done read served called meter w d good c.method (addressed w c)
    (weaker_ok (IsCalled w (good_behind w d good) c) (λ a. WantsFree w d × IsAddressed w (good_behind w d good) a) (addressed w c) (λ a is. (is.free, is.addressed_to)) (addressed_there w (good_behind w d good) c (due_behind w d good)))
work_is read served called meter w (deliveries.send s) good =
    let d = deliveries.send s in
    called_done read served called meter w d good s.method (sent_to w s)
    (weaker_ok (IsAddressed w (good_behind w d good)) (λ a. WantsFree w d × IsAddressed w (good_behind w d good) a) (sent_to w s) (λ a is. (tt, is)) (sent_there w (good_behind w d good) s (due_behind w d good)))
work_is read served called meter w (deliveries.give g) good =
    let d = deliveries.give g in
    give_done read served called meter w d good g (gift_of w g) refl (gift_there w (good_behind w d good) g)
work_is read served called meter w (deliveries.tick t) good = tick_done read served called meter w (deliveries.tick t) good t refl (due_behind w (deliveries.tick t) good)
work_is read served called meter w (deliveries.bad r) good = refused_done read served called meter w (deliveries.bad r) good r
work_is read served called meter w (deliveries.start s) good =
    let d = deliveries.start s in
    let due = due_behind w d good in
    task_done read served called meter w d good (start_call s) tt due.made
    (object_formed w (Some s.instance) (record { kind = kinds.Zcf; number = s.instance }) refl, (handed_held w (Some s.instance) s.private_arguments due.arguments, tt))
work_is read served called meter w (deliveries.offer o) good =
    let d = deliveries.offer o in
    let due = due_behind w d good in
    task_done read served called meter w d good (handler_call o) tt due.function.made
    (object_formed w (Some o.instance) (record { kind = kinds.Zseat; number = o.seat }) due.seat, (handed_held w (Some o.instance) o.offer_arguments due.arguments, (due.held, tt)))
work_is read served called meter w (deliveries.wake x) good =
    let d = deliveries.wake x in
    let due = due_behind w d good in
    task_done read served called meter w d good (wakeup_call x w.schedule.time) tt due.function.made
    (due.held, (number_known read served called meter w d good x.instance w.schedule.time, tt))
work_is read served called meter w (deliveries.notify n) good =
    let d = deliveries.notify n in
    let due = due_behind w d good in
    let s = settlement_of w n.promise in
    let told : IsHanded w (notice_tree s) = notice_handed read served called meter w d good s (settlement_handed w (good_behind w d good) n.promise due.notice.promise) in
    task_done read served called meter w d good (notice_call n s) tt due.notice.function.made
    (due.notice.held, (handed_held w (Some n.instance) (notice_tree s) told, tt))
work_is read served called meter w (deliveries.deadline seat) good = deadline_done read served called meter w (deliveries.deadline seat) good seat refl

-- ---- whole turns

pub turn_good : (read : TextReader) (served : AreGoodServices (serve_call read)) (called : AreGoodHostCalls) (meter : ℕ) (w : State) (d : Delivery) → IsGoodWorld (in_front d w)
    → AreGood w (delivery_turn read meter w d).effects
unfolding delivery_turn
turn_good read served called meter w d good =
    let work = task_work read meter w (beginning w d).task in
    let is = work_is read served called meter w d good in
    good_both w work.effects (ending d work.answer (after_all w work.effects)) is.good (ending_good (after_all w work.effects) d work.answer is.front is.out is.free)
