-- What the host does for a call of an instance's function is good, and what it answers the instance may know.
use Rattle.std.specs.Prelude.{IfOk}
use Rattle.std.specs.List.{AllByRecursion}
use Rattle.std.proofs.Common.{◌≡◌, ℕ, ◌-◌, ◌<◌, Bool, true, false, not, ◌||◌, List, [], ◌∷◌, ◌++◌, Option, Some, None, Ok, Err, length, refl, sym, ap, subst, arith}
use Rattle.delivery_turns.specs.rules.Acts.{MayAct}
use Rattle.delivery_turns.specs.rules.Obligations.{CanCall, IsRule}
use Rattle.delivery_turns.specs.rules.Outcomes.{Outcome}
use Rattle.rule_laws.proofs.Forms.{null_formed, object_formed}
use Rattle.rule_laws.proofs.Next.{after_next_of}
use Rattle.turn_writer.specs.host_data.Nodes.{EachField, FunctionIs, ObjectIs, IsShallow}
use Rattle.turn_writer.proofs.host_data.Nodes.{weaker}
use Rattle.rule_laws.specs.ertp_mint.Stocks.{most_made}
use Rattle.rule_laws.specs.jessie_semantics.Keeping.{AllHave, CallHas, ReplyHas, method_fields}
use Rattle.rule_laws.specs.jessie_semantics.Play.{Call, call, far, send, when}
use Rattle.turn_writer.specs.host_data.Tree as trees
use Rattle.turn_writer.specs.host_data.Tree.{Tree, is_local, object, some_local, stays}
use Rattle.turn_writer.specs.host_data.View.{items_of}
use Rattle.turn_writer.specs.host_data.declared.data.Obj.{Obj}
use Rattle.turn_writer.specs.host_data.declared.data.ObjKind.{ObjKind}
use Rattle.turn_writer.specs.host_data.declared.data.ObjKind.TheVariants as kinds
use Rattle.rule_laws.specs.jessie_values.Requests.{is_promise}
use Rattle.turn_writer.specs.refusals.Codes.{refusal_tree}
use Rattle.turn_writer.specs.refusals.Plain.{IsPlain}
use Rattle.turn_writer.specs.refusals.declared.codes.Refusal.{Refusal}
use Rattle.turn_writer.proofs.refusals.Plainly.{in_order, plain, shallow}
use Rattle.turn_writer.proofs.refusals.Steps.{after_need}
use Rattle.delivery_turns.specs.rules.Methods.{serve_own}
use Rattle.turn_writer.specs.Printing.{CanPrintAll, CanPrintAnswer, CanPrintCall, CanPrintData, CanPrintNode, CanPrintObject}
use Rattle.turn_writer.proofs.Brought.{refusal_prints}
use Rattle.delivery_turns.specs.promise_store.States.{SettlementView}
use Rattle.delivery_turns.specs.turn_records.Deliveries.{Notice}
use Rattle.delivery_turns.specs.turn_records.Events.{called}
use Rattle.delivery_turns.specs.turn_records.Printed.{printed_answer}
use Rattle.delivery_turns.specs.turn_rows.Form.{IsCallAnswer}
use Rattle.delivery_turns.specs.world_state.Promises.{PromiseBook, asking, settlement_at, with_promise}
use Rattle.delivery_turns.specs.world_state.Good.{AreGood, IsGoodWorld, IsMethod}
use Rattle.delivery_turns.specs.world_state.Known.{FunctionKnown, HasNames, IsFormed, IsHanded, IsKnownTo, ObjectKnown, known_as}
use Rattle.delivery_turns.specs.world_state.Worlds as worlds
use Rattle.delivery_turns.specs.world_state.Worlds.{Effect, State, after, after_all, bind_label, note_call, promises_made, request_of, resolve}
use Rattle.rule_laws.proofs.world_laws.Forms.{formed_grows}
use Rattle.rule_laws.proofs.world_laws.Kept.{good-after_all}
use Rattle.rule_laws.proofs.world_laws.Lists.{all_read_or, length_append}
use Rattle.delivery_turns.specs.HostCalls.{method_fields as told_fields}
use Rattle.delivery_turns.specs.HostCalls.{answer_of, reply_of, told_call, told_effects}
use Rattle.delivery_turns.specs.rules.PromisesAndFacets.{call_rule, far_rule, send_rule, when_rule}
use Rattle.delivery_laws.specs.Told.{with_log}
use Rattle.delivery_laws.specs.Works.{AreGoodHostCalls, IsCallWork, IsOfCall}
use Rattle.delivery_laws.proofs.Asking.{all_have}
use Rattle.delivery_laws.proofs.Knowing.{handed_of}
use Rattle.delivery_laws.proofs.Printing.{all_print, below, formed_prints}
use Rattle.delivery_laws.proofs.Logs.{all_good_untold, effects_untold, log_grows}

-- ---- refusals

module _ (w : State) (h : Option ℕ) where
  no_object : (n : ℕ) (t : Tree) → IsPlain n t → ObjectIs (ObjectKnown h w) n t
  no_object n (trees.object o) is = absurd is
  no_object n _ is = tt

  no_function : (n : ℕ) (t : Tree) → IsPlain n t → FunctionIs (FunctionKnown h w) n t
  no_function n (trees.function f) is = absurd is
  no_function n _ is = tt

  named : (n : ℕ) (t : Tree) → CanPrintNode n t → HasNames n t
  named n (trees.fields fs) is = is.1
  named n (trees.function f) is = is
  named n _ is = tt

  less_deep : (n : ℕ) (t : Tree) → IsShallow 4 n t → IsShallow 32 n t
  less_deep n (trees.array ts) is = omega (arith, is)
  less_deep n (trees.fields fs) is = omega (arith, is)
  less_deep n _ is = tt

  pub refusal_formed : (r : Refusal) → IsFormed w h (refusal_tree r)
  refusal_formed r = record {
    objects = weaker IsPlain (ObjectIs (ObjectKnown h w)) no_object 0 (refusal_tree r) (plain r 0);
    functions = weaker IsPlain (FunctionIs (FunctionKnown h w)) no_function 0 (refusal_tree r) (plain r 0);
    named = weaker CanPrintNode HasNames named 0 (refusal_tree r) (refusal_prints r);
    ordered = in_order r 0;
    shallow = weaker (IsShallow 4) (IsShallow 32) less_deep 0 (refusal_tree r) (shallow r 0);
  }

-- ---- effects of calls

calm_act : (w : State) (caller : Option ℕ) (o : Obj) (m : List ℕ) (e : Effect) → MayAct w caller o m e → IsOfCall e
calm_act w caller o m (resolve p v) is = is
calm_act w caller o m (bind_label party label value) is = is
calm_act w caller o m (note_call c) is = absurd is
calm_act w caller o m _ is = tt

pub calm_acts : (w : State) (caller : Option ℕ) (o : Obj) (m : List ℕ) (es : List Effect) → AllByRecursion (MayAct w caller o m) es → AllByRecursion IsOfCall es
calm_acts w caller o m [] is = tt
calm_acts w caller o m (e ∷ es) is = (calm_act w caller o m e is.0, calm_acts w caller o m es is.1)

-- ---- what a rule is for an instance

pub record IsWork (w : State) (i : ℕ) (answer : Tree) (es : List Effect) : Type 0 where
  pub good : AreGood w es
  pub known : IsKnownTo (after_all w es) i answer
  pub calm : AllByRecursion IsOfCall es

abbrev IsWorkOf : State → ℕ → Outcome → Type 0
IsWorkOf w i row = IfOk row (λ d. IsWork w i d.0 d.1)

-- ---- how a call is told can be printed

promise_kind : (k : ObjKind) → is_promise k ≡ true → k ≡ kinds.Promise
promise_kind kinds.Promise e = refl
promise_kind k e = cc

fields_same : (ms : List (List ℕ × List ℕ)) → told_fields ms ≡ method_fields ms
fields_same [] = refl
fields_same (m ∷ ms) = ap (trees.field m.0 (trees.function m.1)) (fields_same ms)

call_answer : (row : Outcome) → IsCallAnswer (printed_answer (answer_of row))
call_answer (Ok (answer, es)) = tt
call_answer (Err r) = tt

module _ (w : State) (i : ℕ) (good : IsGoodWorld w) where
  answer_prints : (row : Outcome) → IsWorkOf w i row → CanPrintAnswer (answer_of row)
  answer_prints (Err r) is = tt
  answer_prints (Ok (answer, es)) is = formed_prints (after_all w es) (good-after_all w es is.good good) (Some i) answer is.known

  called_prints : (o : Obj) (args : List Tree) → IsKnownTo w i (object o) → AllHave (IsKnownTo w i) args → CanPrintObject (Some o) × CanPrintAll args
  called_prints o args target known = (below w good (Some i) o target.objects, all_print w good (Some i) args (all_have (IsKnownTo w i) args known))

  facet_prints : (ms : List (List ℕ × List ℕ)) → IsKnownTo w i (trees.fields (method_fields ms)) → CanPrintData (trees.fields (told_fields ms))
  facet_prints ms known = subst (λ fs. CanPrintData (trees.fields fs)) (sym (fields_same ms)) (formed_prints w good (Some i) (trees.fields (method_fields ms)) known)

  told_prints : (c : Call) (row : Outcome) → CallHas (IsKnownTo w i) c → CanPrintAnswer (answer_of row) → CanPrintCall (told_call c (answer_of row))
  told_prints (call o m args) row known answer =
      let is = called_prints o args known.0 known.1 in
      record { called = is.0; arguments = is.1; answered = call_answer row; answer = answer }
  told_prints (send o m args) row known answer =
      let is = called_prints o args known.0 known.1 in
      record { called = is.0; arguments = is.1; answered = call_answer row; answer = answer }
  told_prints (when o f held) row known answer = record {
    called = (promise_kind o.kind known.0, known.2.named, refl);
    arguments = (formed_prints w good (Some i) held known.3, tt);
    answered = call_answer row;
    answer = answer;
  }
  told_prints (far x ms held) row known answer = record {
    called = (refl, refl);
    arguments = (facet_prints ms known.0, (formed_prints w good (Some i) held known.1, tt));
    answered = call_answer row;
    answer = answer;
  }

-- ---- and once it is told

record IsTold (w : State) (i : ℕ) (c : Call) (row : Outcome) : Type 0 where
  good : AreGood w (told_effects c row)
  known : ReplyHas (IsKnownTo (after_all w (told_effects c row)) i) (reply_of row)
  calm : AllByRecursion IsOfCall (told_effects c row)

told_is : (w : State) (i : ℕ) (c : Call) (row : Outcome) → IsWorkOf w i row → CanPrintCall (told_call c (answer_of row)) → IsTold w i c row
told_is w i c (Err r) is prints = record { good = (tt, tt); known = refusal_formed _ (Some i) r; calm = (prints, tt) }
told_is w i c (Ok (answer, es)) is prints =
    let l = w.log ++ called (told_call c (answer_of (Ok (answer, es)))) ∷ [] in
    let u = after_all (with_log l w) es in
    record {
      good = (tt, all_good_untold l w es is.good);
      known = subst (λ (x : State). IsKnownTo x i answer) (sym (effects_untold l w es)) (formed_grows (after_all w es) (with_log u.log (after_all w es)) (log_grows u.log (after_all w es)) (Some i) answer is.known);
      calm = (prints, is.calm);
    }

-- ---- calls of methods

call_can : (w : State) (i : ℕ) (o : Obj) (args : List Tree) → IsGoodWorld w → i < length w.tables.instances → IsKnownTo w i (object o) → AllHave (IsKnownTo w i) args → CanCall w (Some i) o args
call_can w i o args good made target known = record {
  good = good;
  hosted = made;
  target = target.objects;
  arguments = λ place. all_read_or (IsKnownTo w i) args (place - 1) trees.null (all_have (IsKnownTo w i) args known) (null_formed w (Some i));
}

outcome_work : (w : State) (i : ℕ) (o : Obj) (m : List ℕ) (args : List Tree) (row : Outcome) → IfOk row (λ d. IsRule w (Some i) o m args d.0 d.1) → IsWorkOf w i row
outcome_work w i o m args (Err r) is = tt
outcome_work w i o m args (Ok (answer, es)) is = record { good = is.good; known = is.known; calm = calm_acts w (Some i) o m es is.acts }

-- ---- sends

not_true : (b : Bool) → not b ≡ true → b ≡ false
not_true true e = cc
not_true false e = refl

or_left : (a b : Bool) → (a || b) ≡ false → a ≡ false
or_left true b e = cc
or_left false b e = refl

or_right : (a b : Bool) → (a || b) ≡ false → b ≡ false
or_right true b e = cc
or_right false b e = e

handed_all : (w : State) (i : ℕ) (vs : List Tree) → some_local (items_of vs) ≡ false → AllHave (IsKnownTo w i) vs → AllByRecursion (IsHanded w) vs
handed_all w i [] e h = tt
handed_all w i (v ∷ vs) e h = (handed_of w i v (or_left _ _ e) h.0, handed_all w i vs (or_right (is_local v) _ e) h.1)

send_is : (w : State) (i : ℕ) (target : Obj) (m : List ℕ) (args : List Tree) → i < length w.tables.instances → IsKnownTo w i (object target) → AllHave (IsKnownTo w i) args → IsWorkOf w i (send_rule w i target m args)
unfolding send_rule
send_is w i target m args made known all =
    after_need (λ d. IsWork w i d.0 d.1) (not (stays target.kind || some_local (items_of args))) _ _
    (λ e. after_next_of (λ d. IsWork w i d.0 d.1) (promises_made w) most_made _ (λ room.
    let free = not_true _ e in
    record {
      good = (record { made = made; target = handed_of w i (object target) (or_left _ _ free) known; arguments = handed_all w i args (or_right (stays target.kind) _ free) all; room = room }, tt);
      known = object_formed _ (Some i) (record { kind = kinds.Promise; number = promises_made w }) (let more = length_append w.promises.settled (None ∷ []) in omega (arith, more));
      calm = (tt, tt);
    }))

-- ---- requests

promise_there : (w : State) (i : ℕ) (k : ObjKind) (n : ℕ) → is_promise k ≡ true → known_as i w k n → n < promises_made w
promise_there w i kinds.Promise n e is = is
promise_there w i k n e is = cc

asking_made : (s : Option SettlementView) (n : Notice) (b : PromiseBook) → length (asking s n b).settled ≡ length b.settled
asking_made (Some v) n b = refl
asking_made None n b = refl

asked_made : (w : State) (i p : ℕ) (f : List ℕ) (held : Tree) → promises_made w < promises_made (after w (worlds.when i p f held))
asked_made w i p f held =
    let same = asking_made (settlement_at w.promises.settled p) (request_of w i p f held) (with_promise None w.promises) in
    let more = length_append w.promises.settled (None ∷ []) in
    omega (arith, same, more)

when_is : (w : State) (i : ℕ) (promise : Obj) (f : List ℕ) (held : Tree) → i < length w.tables.instances → is_promise promise.kind ≡ true → IsKnownTo w i (object promise) → IsKnownTo w i (trees.function f) → IsKnownTo w i held → IsWorkOf w i (when_rule w i promise f held)
unfolding when_rule
when_is w i promise f held made is known named kept =
    after_next_of (λ d. IsWork w i d.0 d.1) (promises_made w) most_made _ (λ room. record {
      good = (record { made = promise_there w i promise.kind promise.number is known.objects; function = named.functions; held = kept; room = room }, tt);
      known = object_formed _ (Some i) (record { kind = kinds.Promise; number = promises_made w }) (asked_made w i promise.number f held);
      calm = (tt, tt);
    })

-- ---- facets

methods_there : (w : State) (i n : ℕ) (ms : List (List ℕ × List ℕ)) → EachField (FunctionIs (FunctionKnown (Some i) w)) n (method_fields ms) → AllByRecursion (IsMethod w i) ms
methods_there w i n [] h = tt
methods_there w i n (m ∷ ms) h = (h.0, methods_there w i n ms h.1)

far_is : (w : State) (i : ℕ) (ms : List (List ℕ × List ℕ)) (held : Tree) → i < length w.tables.instances → IsKnownTo w i (trees.fields (method_fields ms)) → IsKnownTo w i held → IsWorkOf w i (far_rule w i ms held)
unfolding far_rule
far_is w i ms held made named kept =
    after_next_of (λ d. IsWork w i d.0 d.1) (length w.facets) most_made _ (λ room. record {
      good = (record { facet = record { made = made; methods = methods_there w i 1 ms named.functions.1; held = kept }; room = room }, tt);
      known = object_formed _ (Some i) (record { kind = kinds.Facet; number = length w.facets }) (let more = length_append w.facets (record { instance = i; methods = ms; held = held } ∷ []) in omega (arith, more));
      calm = (tt, tt);
    })

-- ---- any call

module _ (served : AreGoodHostCalls) (w : State) (i : ℕ) (good : IsGoodWorld w) (made : i < length w.tables.instances) where
  row_is : (c : Call) → CallHas (IsKnownTo w i) c → IsWorkOf w i (call_rule w i c)
  row_is (call o m args) known = outcome_work w i o m args (serve_own w o m args) (served w i o m args (call_can w i o args good made known.0 known.1))
  row_is (send o m args) known = send_is w i o m args made known.0 known.1
  row_is (when o f held) known = when_is w i o f held made known.0 known.1 known.2 known.3
  row_is (far x ms held) known = far_is w i ms held made known.0 known.1

  pub call_is : (c : Call) → CallHas (IsKnownTo w i) c → IsCallWork w i c
  call_is c known =
      let row = call_rule w i c in
      let work = row_is c known in
      let prints = told_prints w i good c row known (answer_prints w i good row work) in
      let is = told_is w i c row work prints in
      record { good = is.good; known = is.known; calm = is.calm }
