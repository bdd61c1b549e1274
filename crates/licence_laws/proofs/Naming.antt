-- A function names only what its instance kept, what came with the delivery, and what it was answered so far.
use Rattle.std.specs.Prelude.{◌≡◌, ◌<◌, ◌+◌, ◌++◌, ℕ, zero, suc, Bool, true, false, cond, List, [], ◌∷◌, Option, Some, None, Result, Ok, Err, IfOk, IfSome, is_none, length, map, refl, slice_set}
use Rattle.std.specs.List.{AllByRecursion}
use Rattle.std.proofs.Common.{inl, inr, sym, ◌∙◌, ap, subst, arith, append-nil, append_assoc}
use Rattle.std.proofs.lemmas.List.{map-append}
use Rattle.fair_laws.proofs.delivery_laws.Asking.{evaluates, have_all, replies_so}
use Rattle.fair_laws.proofs.delivery_laws.Reading.{IsAddressed, IsCalled, addressed_there, sent_there, weaker_ok}
use Rattle.fair_laws.proofs.delivery_laws.Replies.{call_is}
use Rattle.fair_laws.proofs.delivery_laws.Runs.{after_both, after_more, all_grow, grows_itself, grows_on, have_end}
use Rattle.fair_laws.proofs.delivery_laws.Works.{known_all, notice_handed, number_known, settlement_handed}
use Rattle.fair_laws.proofs.delivery_laws.refusals.Plainly.{plain}
use Rattle.fair_laws.proofs.jessie_semantics.Licence.{held_all, licence}
use Rattle.fair_laws.proofs.rule_laws.Forms.{object_formed}
use Rattle.fair_laws.proofs.rule_laws.Shown.{handed_held}
use Rattle.fair_laws.proofs.world_laws.Forms.{formed_grows}
use Rattle.fair_laws.proofs.world_laws.Fronts.{due_behind, good_behind}
use Rattle.fair_laws.proofs.world_laws.Kept.{good-after_all}
use Rattle.fair_laws.proofs.world_laws.Lists.{all_append, all_read}
use Rattle.fair_laws.specs.actors.Facets.{FacetView, facet_at, no_facet}
use Rattle.fair_laws.specs.actors.Tables.{InstanceView, instance_at}
use Rattle.fair_laws.specs.actors.declared.instance_store.instance.Standing.TheVariants.{Halted}
use Rattle.fair_laws.specs.delivery_laws.Hosts.{IsGoodHost}
use Rattle.fair_laws.specs.delivery_laws.Works.{AreGoodHostCalls, Evaluates}
use Rattle.fair_laws.specs.delivery_turns.Endings.{binds, binds_to, departs, ending, publishes, settles}
use Rattle.fair_laws.specs.delivery_turns.Functions.{FunctionCall, Run, ended, function_run, module_play, ran_out, run, run_after}
use Rattle.fair_laws.specs.delivery_turns.HostCalls.{answer_of, call_effects, call_reply, effects_of, method_fields as told_fields, reply_of, told_call}
use Rattle.fair_laws.specs.delivery_turns.Hosts.{HostState, step_after}
use Rattle.fair_laws.specs.delivery_turns.Messages.{Addressed, addressed, gift_of, sent_to}
use Rattle.fair_laws.specs.delivery_turns.Tasks as tasks
use Rattle.fair_laws.specs.delivery_turns.Tasks.{Beginning, Task, answer_of_ending, beginning, call_beginning, do_all, exit_if_open, exits_with, facet_task, function_behind, gift_beginning, halt_with, handler_call, method_task, notice_call, refuse, run_task, run_work, settlement_of, start_call, task_on, task_work, tick_task, wakeup_call}
use Rattle.fair_laws.specs.delivery_turns.Turns.{delivery_turn}
use Rattle.fair_laws.specs.jessie_grammar.Syntax.{routines, variable_names}
use Rattle.fair_laws.specs.jessie_semantics.Keeping.{AllHave, CallHas, EndingHas, FieldsWithin, Handed, ItemsWithin, Known, NextHas, OccursAny, Reference, RepliesHave, Within, method_fields, reply_tree, to_function, to_object}
use Rattle.fair_laws.specs.jessie_semantics.Play as plays
use Rattle.fair_laws.specs.jessie_semantics.Play.{Asks, Call, Ending, Ends, Play, Reply, Spends, after, call, far, send, when}
use Rattle.fair_laws.specs.rule_laws.GoodServices.{AreGoodServices}
use Rattle.fair_laws.specs.rules.Acts.{MayAct}
use Rattle.fair_laws.specs.rules.Methods.{serve as serve_call}
use Rattle.fair_laws.specs.rules.Obligations.{IsRule}
use Rattle.fair_laws.specs.rules.Outcomes.{Outcome}
use Rattle.fair_laws.specs.rules.PromisesAndFacets.{call_rule, far_rule, send_rule, when_rule}
use Rattle.fair_laws.specs.rules.Traces.{all_open}
use Rattle.fair_laws.specs.rules.Words.{has_halted, standing_of}
use Rattle.fair_laws.specs.rules.Zoe.{TextReader}
use Rattle.fair_laws.specs.world_state.host_data.Nodes.{EachField, EachItem, EachNode}
use Rattle.fair_laws.specs.world_state.host_data.Tree as trees
use Rattle.fair_laws.specs.world_state.host_data.Tree.{Fields, Items, Tree, is_local}
use Rattle.fair_laws.specs.world_state.host_data.declared.data.Obj.{Obj}
use Rattle.fair_laws.specs.world_state.host_data.declared.data.ObjKind.{ObjKind}
use Rattle.fair_laws.specs.world_state.host_data.declared.data.ObjKind.TheVariants as kinds
use Rattle.fair_laws.specs.world_state.promise_store.States.{SettlementView}
use Rattle.fair_laws.specs.world_state.promise_store.declared.links.Following.{Following}
use Rattle.fair_laws.specs.world_state.refusals.Codes.{closed, local_only, no_method, refusal_tree}
use Rattle.fair_laws.specs.world_state.refusals.Plain.{IsPlain}
use Rattle.fair_laws.specs.world_state.refusals.declared.codes.Refusal.{Refusal}
use Rattle.fair_laws.specs.world_state.rights_model.declared.Movement.{Movement}
use Rattle.fair_laws.specs.world_state.turn_records.Deliveries as deliveries
use Rattle.fair_laws.specs.world_state.turn_records.Deliveries.{Delivery, Reading, promise_of}
use Rattle.fair_laws.specs.world_state.turn_records.Events as events
use Rattle.fair_laws.specs.world_state.turn_records.Events.{Answer, Event}
use Rattle.fair_laws.specs.world_state.turn_records.Printed.{notice_tree}
use Rattle.fair_laws.specs.world_state.turn_records.Settlements.{settled_after}
use Rattle.fair_laws.specs.world_state.turn_rows.Causes as causes
use Rattle.fair_laws.specs.world_state.turn_rows.Causes.{Cause}
use Rattle.fair_laws.specs.world_state.Good.{IsFacet, IsGoodWorld}
use Rattle.fair_laws.specs.world_state.Known.{Grows, IsHanded, IsKnownTo, made_as, module_of}
use Rattle.fair_laws.specs.world_state.Worlds as worlds
use Rattle.fair_laws.specs.world_state.Worlds.{Effect, State, after_all, behind, bind_label, burn_and_escrows, empty_seat, end_staging, exit, halt, in_front, invite, keep_state, leaving_events, moves, moves_out, note_call, offer, publish, resolve, seat_at}
use Rattle.licence_laws.specs.Came.{brought, facet_brought, instance_behind, runs_in}
use Rattle.licence_laws.specs.Kept.{facets_held, invitations_held, kept_trees, requests_held, wakeups_held}
use Rattle.licence_laws.specs.Objects.{CallNamesOnly, CallsNameOnly, NamesOnly, NamesWhatWasHanded, ResultNamesOnly, answer_trees, answers_in}
use Rattle.licence_laws.specs.Steps.{runner}
use Rattle.licence_laws.proofs.Effects.{IsStill}
use Rattle.licence_laws.proofs.Rows.{call_can, far_is_still, send_is_still, when_is_still}
use Rattle.licence_laws.proofs.Told.{all_tell, all_told, exit_settles, resolve_settles, settlements, told_both, told_by}

-- ---- what more was handed may be named too

abbrev pub Sub : List Tree → List Tree → Type 0
Sub xs ys = (o : Obj) → OccursAny o xs → OccursAny o ys

pub occurs_first : (xs ys : List Tree) → Sub xs (xs ++ ys)
occurs_first [] ys o is = absurd is
occurs_first (x ∷ xs) ys o (inl is) = inl is
occurs_first (x ∷ xs) ys o (inr is) = inr (occurs_first xs ys o is)

pub occurs_second : (xs ys : List Tree) → Sub ys (xs ++ ys)
occurs_second [] ys o is = is
occurs_second (x ∷ xs) ys o is = inr (occurs_second xs ys o is)

pub occurs_both : (xs ys zs : List Tree) → Sub xs zs → Sub ys zs → Sub (xs ++ ys) zs
occurs_both [] ys zs one two o is = two o is
occurs_both (x ∷ xs) ys zs one two o (inl is) = one o (inl is)
occurs_both (x ∷ xs) ys zs one two o (inr is) = occurs_both xs ys zs (λ p at. one p (inr at)) two o is

sub_then : (xs ys zs : List Tree) → Sub xs ys → Sub (xs ++ zs) (ys ++ zs)
sub_then xs ys zs sub = occurs_both xs zs (ys ++ zs) (λ o is. occurs_first ys zs o (sub o is)) (occurs_second ys zs)

known_more : (xs ys : List Tree) → Sub xs ys → (r : Reference) → Handed xs r → Handed ys r
known_more xs ys sub (to_object o) is = sub o is
known_more xs ys sub (to_function f) is = tt

mutual
  within_more : (K L : Known) → ((r : Reference) → K r → L r) → (t : Tree) → Within K t → Within L t
  within_more K L more trees.null is = tt
  within_more K L more (trees.boolean b) is = tt
  within_more K L more (trees.number z) is = tt
  within_more K L more (trees.text s) is = tt
  within_more K L more (trees.array ts) is = items_more K L more ts is
  within_more K L more (trees.fields fs) is = fields_more K L more fs is
  within_more K L more (trees.object o) is = more (to_object o) is
  within_more K L more (trees.function f) is = more (to_function f) is

  items_more : (K L : Known) → ((r : Reference) → K r → L r) → (ts : Items) → ItemsWithin K ts → ItemsWithin L ts
  items_more K L more trees.no_items is = tt
  items_more K L more (trees.item t ts) is = (within_more K L more t is.0, items_more K L more ts is.1)

  fields_more : (K L : Known) → ((r : Reference) → K r → L r) → (fs : Fields) → FieldsWithin K fs → FieldsWithin L fs
  fields_more K L more trees.no_fields is = tt
  fields_more K L more (trees.field f t fs) is = (within_more K L more t is.0, fields_more K L more fs is.1)

names_more : (xs ys : List Tree) → Sub xs ys → (t : Tree) → NamesOnly xs t → NamesOnly ys t
names_more xs ys sub t is = within_more (Handed xs) (Handed ys) (known_more xs ys sub) t is

pub all_names_more : (xs ys : List Tree) → Sub xs ys → (ts : List Tree) → AllHave (NamesOnly xs) ts → AllHave (NamesOnly ys) ts
all_names_more xs ys sub [] is = tt
all_names_more xs ys sub (t ∷ ts) is = (names_more xs ys sub t is.0, all_names_more xs ys sub ts is.1)

-- what is handed may be named
pub handed_named : (ts ys : List Tree) → Sub ts ys → AllHave (NamesOnly ys) ts
handed_named ts ys sub = held_all (Handed ys) ts sub (λ f. tt)

target_more : (xs ys : List Tree) → Sub xs ys → (on : Option Obj) → IfSome on (λ o. OccursAny o xs) → IfSome on (λ o. OccursAny o ys)
target_more xs ys sub None is = tt
target_more xs ys sub (Some o) is = sub o is

pub calls_more : (xs ys : List Tree) → Sub xs ys → (es : List Event) → CallsNameOnly xs es → CallsNameOnly ys es
calls_more xs ys sub [] is = tt
calls_more xs ys sub (events.called c ∷ es) is = (
  record { target = target_more xs ys sub c.on is.0.target; arguments = all_names_more xs ys sub c.arguments is.0.arguments },
  calls_more (xs ++ answer_trees c.answer) (ys ++ answer_trees c.answer) (sub_then xs ys (answer_trees c.answer) sub) es is.1,
)
calls_more xs ys sub (events.opened o ∷ es) is = calls_more xs ys sub es is
calls_more xs ys sub (events.moved m ∷ es) is = calls_more xs ys sub es is
calls_more xs ys sub (events.exited x ∷ es) is = calls_more xs ys sub es is
calls_more xs ys sub (events.settled p s ∷ es) is = calls_more xs ys sub es is

pub result_more : (xs ys : List Tree) → Sub xs ys → (a : Answer) → ResultNamesOnly xs a → ResultNamesOnly ys a
result_more xs ys sub (events.given t) is = names_more xs ys sub t is
result_more xs ys sub (events.threw t) is = names_more xs ys sub t is
result_more xs ys sub (events.refused r) is = tt
result_more xs ys sub (events.spent m) is = tt

-- ---- events that tell of no call

abbrev pub IsNoCall : Event → Type 0
IsNoCall (events.called c) = ⊥
IsNoCall _ = Unit {0}

abbrev pub NoCalls : List Event → Type 0
NoCalls es = AllByRecursion IsNoCall es

quiet_both : (xs ys : List Event) → NoCalls xs → NoCalls ys → NoCalls (xs ++ ys)
quiet_both [] ys one two = two
quiet_both (x ∷ xs) ys one two = (one.0, quiet_both xs ys one.1 two)

calls_behind : (h : List Tree) (xs ys : List Event) → NoCalls xs → CallsNameOnly h ys → CallsNameOnly h (xs ++ ys)
calls_behind h [] ys quiet is = is
calls_behind h (events.called c ∷ xs) ys quiet is = absurd quiet.0
calls_behind h (events.opened o ∷ xs) ys quiet is = calls_behind h xs ys quiet.1 is
calls_behind h (events.moved m ∷ xs) ys quiet is = calls_behind h xs ys quiet.1 is
calls_behind h (events.exited x ∷ xs) ys quiet is = calls_behind h xs ys quiet.1 is
calls_behind h (events.settled p s ∷ xs) ys quiet is = calls_behind h xs ys quiet.1 is

pub none_named : (h : List Tree) (ys : List Event) → NoCalls ys → CallsNameOnly h ys
none_named h [] quiet = tt
none_named h (events.called c ∷ ys) quiet = absurd quiet.0
none_named h (events.opened o ∷ ys) quiet = none_named h ys quiet.1
none_named h (events.moved m ∷ ys) quiet = none_named h ys quiet.1
none_named h (events.exited x ∷ ys) quiet = none_named h ys quiet.1
none_named h (events.settled p s ∷ ys) quiet = none_named h ys quiet.1

pub calls_before : (h : List Tree) (xs ys : List Event) → NoCalls ys → CallsNameOnly h xs → CallsNameOnly h (xs ++ ys)
calls_before h [] ys quiet is = none_named h ys quiet
calls_before h (events.called c ∷ xs) ys quiet is = (is.0, calls_before (h ++ answer_trees c.answer) xs ys quiet is.1)
calls_before h (events.opened o ∷ xs) ys quiet is = calls_before h xs ys quiet is
calls_before h (events.moved m ∷ xs) ys quiet is = calls_before h xs ys quiet is
calls_before h (events.exited x ∷ xs) ys quiet is = calls_before h xs ys quiet is
calls_before h (events.settled p s ∷ xs) ys quiet is = calls_before h xs ys quiet is

answers_behind : (xs ys : List Event) → NoCalls xs → answers_in (xs ++ ys) ≡ answers_in ys
answers_behind [] ys quiet = refl
answers_behind (events.called c ∷ xs) ys quiet = absurd quiet.0
answers_behind (events.opened o ∷ xs) ys quiet = answers_behind xs ys quiet.1
answers_behind (events.moved m ∷ xs) ys quiet = answers_behind xs ys quiet.1
answers_behind (events.exited x ∷ xs) ys quiet = answers_behind xs ys quiet.1
answers_behind (events.settled p s ∷ xs) ys quiet = answers_behind xs ys quiet.1

none_answered : (ys : List Event) → NoCalls ys → answers_in ys ≡ []
none_answered ys quiet = ap answers_in (sym (append-nil ys)) ∙ answers_behind ys [] quiet

pub answers_before : (xs ys : List Event) → NoCalls ys → answers_in (xs ++ ys) ≡ answers_in xs
answers_before [] ys quiet = none_answered ys quiet
answers_before (events.called c ∷ xs) ys quiet = ap (λ l. answer_trees c.answer ++ l) (answers_before xs ys quiet)
answers_before (events.opened o ∷ xs) ys quiet = answers_before xs ys quiet
answers_before (events.moved m ∷ xs) ys quiet = answers_before xs ys quiet
answers_before (events.exited x ∷ xs) ys quiet = answers_before xs ys quiet
answers_before (events.settled p s ∷ xs) ys quiet = answers_before xs ys quiet

-- ---- effects that tell of no call

abbrev pub IsNoNote : Effect → Type 0
IsNoNote (note_call c) = ⊥
IsNoNote _ = Unit {0}

moves_quiet : (ms : List Movement) → NoCalls (map events.moved ms)
moves_quiet [] = tt
moves_quiet (m ∷ ms) = (tt, moves_quiet ms)

settlements_quiet : (ps : List (ℕ × SettlementView)) → NoCalls (settlements ps)
settlements_quiet [] = tt
settlements_quiet (p ∷ ps) = (tt, settlements_quiet ps)

quiet_by : (v : State) (e : Effect) → IsNoNote e → NoCalls (told_by v e)
quiet_by v (moves ms) is = moves_quiet ms
quiet_by v (offer o) is = (tt, moves_quiet (burn_and_escrows o))
quiet_by v (empty_seat i rule) is = (tt, (tt, tt))
quiet_by v (exit seat cause) is = quiet_both (leaving_events v seat cause) (settlements (exit_settles v seat cause).promises) (tt, moves_quiet (moves_out v seat)) (settlements_quiet (exit_settles v seat cause).promises)
quiet_by v (invite d) is = (tt, tt)
quiet_by v (resolve p s) is = settlements_quiet (resolve_settles v p s).promises
quiet_by v (note_call c) is = absurd is
quiet_by v e is = tt

pub all_quiet : (v : State) (es : List Effect) → AllByRecursion IsNoNote es → NoCalls (all_told v es)
all_quiet v [] are = tt
all_quiet v (e ∷ es) are = quiet_both (told_by v e) (all_told (worlds.after v e) es) (quiet_by v e are.0) (all_quiet (worlds.after v e) es are.1)

still_unnoted : (es : List Effect) → AllByRecursion IsStill es → AllByRecursion IsNoNote es
still_unnoted [] still = tt
still_unnoted (e ∷ es) still = (one e still.0, still_unnoted es still.1)
  where
    one : (e : Effect) → IsStill e → IsNoNote e
    one (note_call c) is = is
    one e is = tt

acts_unnoted : (w : State) (caller : Option ℕ) (o : Obj) (m : List ℕ) (es : List Effect) → AllByRecursion (MayAct w caller o m) es → AllByRecursion IsNoNote es
acts_unnoted w caller o m [] acts = tt
acts_unnoted w caller o m (e ∷ es) acts = (one e acts.0, acts_unnoted w caller o m es acts.1)
  where
    one : (e : Effect) → MayAct w caller o m e → IsNoNote e
    one (note_call c) is = is
    one e is = tt

-- of what a call has
still_row : (row : Outcome) → IfOk row (λ d. AllByRecursion IsStill d.1) → AllByRecursion IsNoNote (effects_of row)
still_row (Ok (answer, es)) still = still_unnoted es still
still_row (Err r) still = tt

acting_row : (w : State) (i : ℕ) (o : Obj) (m : List ℕ) (args : List Tree) (row : Outcome) → IfOk row (λ d. IsRule w (Some i) o m args d.0 d.1) → AllByRecursion IsNoNote (effects_of row)
acting_row w i o m args (Ok (answer, es)) is = acts_unnoted w (Some i) o m es is.acts
acting_row w i o m args (Err r) is = tt

row_unnoted : (served : AreGoodHostCalls) (w : State) (i : ℕ) → IsGoodWorld w → i < length w.tables.instances → (c : Call) → CallHas (IsKnownTo w i) c → AllByRecursion IsNoNote (effects_of (call_rule w i c))
row_unnoted served w i good made (call o m args) known = acting_row w i o m args (call_rule w i (call o m args)) (served w i o m args (call_can w i o m args good made known))
row_unnoted served w i good made (send o m args) known = still_row (send_rule w i o m args) (send_is_still w i o m args)
row_unnoted served w i good made (when o f held) known = still_row (when_rule w i o f held) (when_is_still w i o f held)
row_unnoted served w i good made (far x ms held) known = still_row (far_rule w i ms held) (far_is_still w i ms held)

-- ---- a call

fields_same : (ms : List (List ℕ × List ℕ)) → told_fields ms ≡ method_fields ms
fields_same [] = refl
fields_same (m ∷ ms) = ap (trees.field m.0 (trees.function m.1)) (fields_same ms)

-- what it is told with is what was called
call_named : (h : List Tree) (c : Call) (a : Answer) → CallHas (NamesOnly h) c → CallNamesOnly h (told_call c a)
call_named h (call o m args) a has = record { target = has.0; arguments = has.1 }
call_named h (send o m args) a has = record { target = has.0; arguments = has.1 }
call_named h (when o f held) a has = record { target = has.1; arguments = (has.3, tt) }
call_named h (far x ms held) a has = record {
  target = tt;
  arguments = (subst (λ fs. NamesOnly h (trees.fields fs)) (sym (fields_same ms)) has.0, (has.1, tt));
}

-- the answer that is told is that which was given
answer_given : (c : Call) (row : Outcome) → answer_trees (told_call c (answer_of row)).answer ≡ reply_tree (reply_of row) ∷ []
answer_given (call o m args) (Ok d) = refl
answer_given (call o m args) (Err r) = refl
answer_given (send o m args) (Ok d) = refl
answer_given (send o m args) (Err r) = refl
answer_given (when o f held) (Ok d) = refl
answer_given (when o f held) (Err r) = refl
answer_given (far x ms held) (Ok d) = refl
answer_given (far x ms held) (Err r) = refl

-- ---- a run

-- from what was handed: its calls, its ending and the state values that it leaves
abbrev EndNames : List Tree → Ending → List Tree → Type 0
EndNames h e values = EndingHas (NamesOnly h) e × AllHave (NamesOnly h) values

abbrev RunNames : List Tree → State → Run → Type 0
RunNames h w (ended e values es) = CallsNameOnly h (all_told w es) × EndNames (h ++ answers_in (all_told w es)) e values
RunNames h w ran_out = Unit {0}

-- behind a call whose answer was handed
then_names : (h : List Tree) (w : State) (c : Call) (row : Outcome) (x : Run) → CallHas (NamesOnly h) c → AllByRecursion IsNoNote (effects_of row)
    → (let es = note_call (told_call c (answer_of row)) ∷ effects_of row in RunNames (h ++ reply_tree (reply_of row) ∷ []) (after_all w es) x → RunNames h w (run_after es x))
then_names h w c row ran_out has quiet rest = tt
then_names h w c row (ended e values fs) has quiet rest =
    let told = told_call c (answer_of row) in
    let es = note_call told ∷ effects_of row in
    let noted = worlds.after w (note_call told) in
    let own = all_told noted (effects_of row) in
    let later = all_told (after_all w es) fs in
    let none : NoCalls own = all_quiet noted (effects_of row) quiet in
    let given = answer_given c row in
    let all : all_told w (es ++ fs) ≡ events.called told ∷ (own ++ later) = ap (λ l. events.called told ∷ l) (told_both noted (effects_of row) fs) in
    let names : CallsNameOnly (h ++ answer_trees told.answer) (own ++ later) = calls_behind (h ++ answer_trees told.answer) own later none (subst (λ a. CallsNameOnly (h ++ a) later) (sym given) rest.0) in
    let answers : h ++ answers_in (events.called told ∷ (own ++ later)) ≡ (h ++ reply_tree (reply_of row) ∷ []) ++ answers_in later =
    ap (λ l. h ++ (answer_trees told.answer ++ l)) (answers_behind own later none)
    ∙ ap (λ a. h ++ (a ++ answers_in later)) given
    ∙ sym (append_assoc h (reply_tree (reply_of row) ∷ []) (answers_in later)) in
    subst (λ l. CallsNameOnly h l × EndNames (h ++ answers_in l) e values) (sym all)
    ((call_named h c (answer_of row) has, names), subst (λ l. EndNames l e values) (sym answers) rest.1)

module _ (served : AreGoodHostCalls) (start : State) (i n : ℕ) (made : i < length start.tables.instances) (p0 : Play) (asks : Evaluates start i n p0)
    (hand : List Tree) (named : (rs : List Reply) → NextHas (NamesOnly (hand ++ map reply_tree rs)) n (after p0 rs)) where
  run_names : (p : Play) (rs : List Reply) (w : State) → after p0 rs ≡ p → IsGoodWorld w → Grows start w → RepliesHave (IsKnownTo w i) rs → RunNames (hand ++ map reply_tree rs) w (run w i p)
  run_names (Ends e values) rs w is good grown known =
      let h = hand ++ map reply_tree rs in
      let ends = subst (λ q. NextHas (NamesOnly h) n q) is (named rs) in
      (tt, subst (λ l. EndNames l e values) (sym (append-nil h)) (ends.0, ends.1.0))
  run_names Spends rs w is good grown known = tt
  run_names (Asks c go) rs w is good grown known =
      let h = hand ++ map reply_tree rs in
      let has : CallHas (NamesOnly h) c = subst (λ q. NextHas (NamesOnly h) n q) is (named rs) in
      let next : CallHas (IsKnownTo w i) c = subst (λ q. NextHas (IsKnownTo w i) n q) is (asks.each w grown rs known) in
      let here : i < length w.tables.instances = omega (arith, made, grown.instances.more) in
      let work = call_is served w i good here c next in
      let es = call_effects w i c in
      let r = call_reply w i c in
      let known_then : RepliesHave (IsKnownTo (after_all w es) i) (rs ++ r ∷ []) = have_end (after_all w es) i rs r (replies_so (formed_grows w (after_all w es) (all_grow w es) (Some i)) rs known) work.known in
      let rest = run_names (go r) (rs ++ r ∷ []) (after_all w es) (after_more p0 rs c go r is) (good-after_all w es work.good good) (grows_on start w (after_all w es) grown (all_grow w es)) known_then in
      let handed_then : hand ++ map reply_tree (rs ++ r ∷ []) ≡ h ++ reply_tree r ∷ [] = ap (λ l. hand ++ l) (map-append reply_tree rs (r ∷ [])) ∙ sym (append_assoc hand (map reply_tree rs) (reply_tree r ∷ [])) in
      then_names h w c (call_rule w i c) (run (after_all w es) i (go r)) has (row_unnoted served w i good here c next)
      (subst (λ l. RunNames l (after_all w es) (run (after_all w es) i (go r))) handed_then rest)

-- ---- state values that stay as they are

abbrev pub state_of : State → ℕ → List Tree
state_of v i = (instance_at v.tables.instances i).state

-- what ends a turn, and what a spent meter leaves: it tells of no call, and no state value is another
abbrev pub EndsTurn : Effect → Type 0
EndsTurn (publish i t) = Unit {0}
EndsTurn (resolve p v) = Unit {0}
EndsTurn (exit seat cause) = Unit {0}
EndsTurn (halt i) = Unit {0}
EndsTurn (bind_label party label t) = Unit {0}
EndsTurn end_staging = Unit {0}
EndsTurn _ = ⊥

state_set : (xs : List InstanceView) (n i : ℕ) (x : InstanceView) → x.state ≡ (instance_at xs n).state → (instance_at (slice_set xs n x) i).state ≡ (instance_at xs i).state
state_set [] n i x is = refl
state_set (y ∷ ys) zero zero x is = is
state_set (y ∷ ys) zero (suc i) x is = refl
state_set (y ∷ ys) (suc n) zero x is = refl
state_set (y ∷ ys) (suc n) (suc i) x is = state_set ys n i x is

state_kept : (xs : List InstanceView) (i : ℕ) (x : InstanceView) → i < length xs → (instance_at (slice_set xs i x) i).state ≡ x.state
state_kept [] i x lt = absurd (omega (arith, lt))
state_kept (y ∷ ys) zero x lt = refl
state_kept (y ∷ ys) (suc i) x lt = state_kept ys i x (omega (arith, lt))

state_left : (v : State) (e : Effect) (i : ℕ) → EndsTurn e → state_of (worlds.after v e) i ≡ state_of v i
state_left v (publish n t) i is = state_set v.tables.instances n i (record (instance_at v.tables.instances n) { public_facet = Some t }) refl
state_left v (halt n) i is = state_set v.tables.instances n i (record (instance_at v.tables.instances n) { standing = Halted }) refl
state_left v (resolve p s) i is = refl
state_left v (exit seat cause) i is = refl
state_left v (bind_label party label t) i is = refl
state_left v end_staging i is = refl
state_left v e i is = absurd is

states_left : (v : State) (es : List Effect) (i : ℕ) → AllByRecursion EndsTurn es → state_of (after_all v es) i ≡ state_of v i
states_left v [] i are = refl
states_left v (e ∷ es) i are = states_left (worlds.after v e) es i are.1 ∙ state_left v e i are.0

end_unnoted : (es : List Effect) → AllByRecursion EndsTurn es → AllByRecursion IsNoNote es
end_unnoted [] are = tt
end_unnoted (e ∷ es) are = (one e are.0, end_unnoted es are.1)
  where
    one : (e : Effect) → EndsTurn e → IsNoNote e
    one (note_call c) is = is
    one e is = tt

-- ---- what ends a turn

exits_end : (cause : Cause) (seats : List ℕ) → AllByRecursion EndsTurn (exits_with cause seats)
exits_end cause [] = tt
exits_end cause (s ∷ ss) = (tt, exits_end cause ss)

halts_end : (cause : Cause) (w : State) (i : ℕ) → AllByRecursion EndsTurn (halt_with cause w i)
halts_end cause w i = all_append EndsTurn (exits_with cause (all_open w i)) (halt i ∷ []) (exits_end cause (all_open w i)) (tt, tt)

publishes_end : (d : Delivery) (a : Answer) → AllByRecursion EndsTurn (publishes d a)
publishes_end (deliveries.start s) (events.given t) = (tt, tt)
publishes_end d a = tt

settles_end : (fs : List Following) (p : Option ℕ) (s : SettlementView) → AllByRecursion EndsTurn (settles fs p s)
settles_end fs None s = tt
settles_end fs (Some p) s = (tt, tt)

departs_end : (d : Delivery) (a : Answer) (u : State) → AllByRecursion EndsTurn (departs d a u)
departs_end (deliveries.offer o) (events.threw t) u = by (is_none (seat_at u.seats o.seat).last)
  where
    by : (b : Bool) → AllByRecursion EndsTurn (cond b (exit o.seat causes.threw ∷ []) [])
    by true = (tt, tt)
    by false = tt
departs_end (deliveries.start s) (events.threw t) u = halts_end causes.halted u s.instance
departs_end d a u = tt

binds_end : (d : Delivery) (a : Answer) → AllByRecursion EndsTurn (binds d a)
binds_end (deliveries.call c) (events.given t) = by c.label
  where
    by : (l : Option (List ℕ)) → AllByRecursion EndsTurn (binds_to c.by l t)
    by None = tt
    by (Some label) = (tt, tt)
binds_end d a = tt

ending_ends : (d : Delivery) (a : Answer) (u : State) → AllByRecursion EndsTurn (ending d a u)
unfolding ending
ending_ends d a u =
    let second = settles u.promises.follows (promise_of d) (settled_after d a) in
    all_append EndsTurn (publishes d a) (second ++ (departs d a u ++ (binds d a ++ end_staging ∷ []))) (publishes_end d a)
    (all_append EndsTurn second (departs d a u ++ (binds d a ++ end_staging ∷ [])) (settles_end u.promises.follows (promise_of d) (settled_after d a))
    (all_append EndsTurn (departs d a u) (binds d a ++ end_staging ∷ []) (departs_end d a u) (all_append EndsTurn (binds d a) (end_staging ∷ []) (binds_end d a) (tt, tt))))

-- ---- what is done

-- what a turn's work names, of the instance, from what was handed before its first call
pub record WorkNames (w : State) (i : ℕ) (h : List Tree) (a : Answer) (es : List Effect) : Type 0 where
  pub calls : CallsNameOnly h (all_told w es)
  pub result_given : ResultNamesOnly (h ++ answers_in (all_told w es)) a
  pub state : AllHave (NamesOnly (h ++ answers_in (all_told w es))) (state_of (after_all w es) i)

-- further effects that end the turn leave it so
then_ends : (w : State) (i : ℕ) (h : List Tree) (a : Answer) (es fs : List Effect) → AllByRecursion EndsTurn fs → WorkNames w i h a es → WorkNames w i h a (es ++ fs)
then_ends w i h a es fs ends names =
    let u = after_all w es in
    let none : NoCalls (all_told u fs) = all_quiet u fs (end_unnoted fs ends) in
    let told : all_told w (es ++ fs) ≡ all_told w es ++ all_told u fs = told_both w es fs in
    let answers : answers_in (all_told w (es ++ fs)) ≡ answers_in (all_told w es) = ap answers_in told ∙ answers_before (all_told w es) (all_told u fs) none in
    let same : state_of (after_all w (es ++ fs)) i ≡ state_of u i = ap (λ (v : State). state_of v i) (after_both w es fs) ∙ states_left u fs i ends in
    record {
      calls = subst (CallsNameOnly h) (sym told) (calls_before h (all_told w es) (all_told u fs) none names.calls);
      result_given = subst (λ l. ResultNamesOnly (h ++ l) a) (sym answers) names.result_given;
      state = subst (λ l. AllHave (NamesOnly (h ++ l)) (state_of (after_all w (es ++ fs)) i)) (sym answers) (subst (AllHave (NamesOnly (h ++ answers_in (all_told w es)))) (sym same) names.state);
    }

-- nothing was done but what ends a turn, and the result names nothing
nothing_named : (w : State) (i : ℕ) (h : List Tree) (a : Answer) → Sub (state_of w i) h → ((l : List Tree) → ResultNamesOnly l a) → WorkNames w i h a []
nothing_named w i h a sub bare = record {
  calls = tt;
  result_given = bare (h ++ []);
  state = handed_named (state_of w i) (h ++ []) (λ o is. occurs_first h [] o (sub o is));
}

-- the data of a refusal names nothing
mutual
  plain_within : (K : Known) (n : ℕ) (t : Tree) → EachNode IsPlain n t → Within K t
  plain_within K n trees.null is = tt
  plain_within K n (trees.boolean b) is = tt
  plain_within K n (trees.number z) is = tt
  plain_within K n (trees.text s) is = tt
  plain_within K n (trees.array ts) is = plain_items K (n + 1) ts is.1
  plain_within K n (trees.fields fs) is = plain_fields K (n + 1) fs is.1
  plain_within K n (trees.object o) is = absurd is
  plain_within K n (trees.function f) is = absurd is

  plain_items : (K : Known) (n : ℕ) (ts : Items) → EachItem IsPlain n ts → ItemsWithin K ts
  plain_items K n trees.no_items is = tt
  plain_items K n (trees.item t ts) is = (plain_within K n t is.0, plain_items K n ts is.1)

  plain_fields : (K : Known) (n : ℕ) (fs : Fields) → EachField IsPlain n fs → FieldsWithin K fs
  plain_fields K n trees.no_fields is = tt
  plain_fields K n (trees.field f t fs) is = (plain_within K n t is.0, plain_fields K n fs is.1)

-- a result that stays with its instance counts as thrown
local_named : (h : List Tree) → NamesOnly h (refusal_tree local_only)
local_named h = plain_within (Handed h) 0 (refusal_tree local_only) (plain local_only 0)

ending_named : (h : List Tree) (e : Ending) → EndingHas (NamesOnly h) e → ResultNamesOnly h (answer_of_ending e)
ending_named h (plays.returned v) has = by (is_local v)
  where
    by : (b : Bool) → ResultNamesOnly h (cond b (events.threw (refusal_tree local_only)) (events.given v))
    by true = local_named h
    by false = has
ending_named h (plays.threw v) has = by (is_local v)
  where
    by : (b : Bool) → ResultNamesOnly h (cond b (events.threw (refusal_tree local_only)) (events.threw v))
    by true = local_named h
    by false = has

-- a function was run
ran_named : (meter : ℕ) (w : State) (i : ℕ) (h0 h : List Tree) (x : Run) → i < length w.tables.instances → Sub h0 h → Sub (state_of w i) h → RunNames h0 w x
    → (let work = run_work meter w i x in WorkNames w i h work.answer work.effects)
ran_named meter w i h0 h ran_out made sub kept names =
    then_ends w i h (events.spent meter) [] (halt_with causes.spent w i) (halts_end causes.spent w i) (nothing_named w i h (events.spent meter) kept (λ l. tt))
ran_named meter w i h0 h (ended e values es) made sub kept names =
    let u = after_all w es in
    let keep = keep_state i values ∷ [] in
    let a = answer_of_ending e in
    let given = answers_in (all_told w es) in
    let further : Sub (h0 ++ given) (h ++ given) = sub_then h0 h given sub in
    let told : all_told w (es ++ keep) ≡ all_told w es = told_both w es keep ∙ append-nil (all_told w es) in
    let there : i < length u.tables.instances = omega (arith, made, (all_grow w es).instances.more) in
    let state : state_of (after_all w (es ++ keep)) i ≡ values = ap (λ (v : State). state_of v i) (after_both w es keep) ∙ state_kept u.tables.instances i (record (instance_at u.tables.instances i) { state = values }) there in
    record {
      calls = subst (CallsNameOnly h) (sym told) (calls_more h0 h sub (all_told w es) names.0);
      result_given = subst (λ l. ResultNamesOnly (h ++ answers_in l) a) (sym told) (result_more (h0 ++ given) (h ++ given) further a (ending_named (h0 ++ given) e names.1.0));
      state = subst (λ l. AllHave (NamesOnly (h ++ answers_in l)) (state_of (after_all w (es ++ keep)) i)) (sym told)
          (subst (AllHave (NamesOnly (h ++ given))) (sym state) (all_names_more (h0 ++ given) (h ++ given) further values names.1.1));
    }

-- ---- what a delivery's turn does

module _ (read : TextReader) (served : AreGoodServices (serve_call read)) (called : AreGoodHostCalls) (meter : ℕ) (w : State) (d : Delivery) (good : IsGoodWorld (in_front d w)) where
  abbrev whole : IsGoodWorld w
  whole = good_behind w d good

  abbrev handed_first : ℕ → Reading → List Tree
  handed_first i r = kept_trees w i ++ brought w d r

  -- of the instance whose function the turn runs
  abbrev pub TaskNames : Reading → Task → Type 0
  TaskNames r task = (i : ℕ) → runs_in w d r ≡ Some i → WorkNames w i (handed_first i r) (task_work read meter w task).answer (task_work read meter w task).effects

  abbrev pub BeginningNames : Beginning → Type 0
  BeginningNames b = TaskNames b.reading b.task

  state_handed : (i : ℕ) (r : Reading) → Sub (state_of w i) (handed_first i r)
  state_handed i r o is =
      occurs_first (kept_trees w i) (brought w d r) o
      (occurs_first (state_of w i) (facets_held i w.facets ++ (invitations_held i w.invitations ++ (wakeups_held i w.schedule.waiting ++ requests_held i w.promises.requests))) o is)

  refused_names : (r : Reading) (e : Refusal) → TaskNames r (refuse e)
  unfolding task_work
  refused_names r e i runs = nothing_named w i (handed_first i r) (events.refused e) (state_handed i r) (λ l. tt)

  -- no function is run
  no_function : (r : Reading) (task : Task) → runs_in w d r ≡ None → TaskNames r task
  no_function r task alone i runs = let none : None ≡ Some i = sym alone ∙ runs in absurd (cc)

  -- ---- functions

  called_names : (r : Reading) (c : FunctionCall) → brought w d r ≡ c.arguments → c.instance < length w.tables.instances → AllHave (IsKnownTo w c.instance) c.arguments
      → (let work = run_work meter w c.instance (function_run meter w c) in WorkNames w c.instance (handed_first c.instance r) work.answer work.effects)
  unfolding function_run
  called_names r c same made known =
      let i = c.instance in
      let m = module_of w.tables i in
      let values = state_of w i in
      let kept : AllHave (IsKnownTo w i) values = have_all (IsKnownTo w i) values (whole.instances.each i made).state in
      let p = module_play m c.function c.arguments values meter in
      let asks = evaluates w i whole made c.function c.arguments values meter known kept in
      let hand = c.arguments ++ values in
      let n = length (variable_names m) in
      let named : (rs : List Reply) → NextHas (NamesOnly (hand ++ map reply_tree rs)) n (after p rs) = λ rs.
      subst (λ h. NextHas (NamesOnly h) n (after p rs)) (sym (append_assoc c.arguments values (map reply_tree rs))) (licence (routines m) (variable_names m) c.function c.arguments values meter rs) in
      let names : RunNames (hand ++ []) w (run w i p) = run_names called w i n made p asks hand named p [] w refl whole (grows_itself w) tt in
      let h = handed_first i r in
      let arguments : Sub c.arguments h = λ o is. occurs_second (kept_trees w i) (brought w d r) o (subst (OccursAny o) (sym same) is) in
      let all : Sub (hand ++ []) h = occurs_both hand [] h (occurs_both c.arguments values h arguments (state_handed i r)) (λ o is. absurd is) in
      ran_named meter w i (hand ++ []) h (run w i p) made all (state_handed i r) names

  run_task_names : (r : Reading) (c : FunctionCall) → runs_in w d r ≡ Some c.instance → brought w d r ≡ c.arguments → c.instance < length w.tables.instances → AllHave (IsKnownTo w c.instance) c.arguments → TaskNames r (tasks.run c)
  unfolding task_work
  run_task_names r c own same made known i runs =
      let so : Some c.instance ≡ Some i = sym own ∙ runs in
      let is : c.instance ≡ i = cc in
      let work = run_work meter w c.instance (function_run meter w c) in
      subst (λ j. WorkNames w j (handed_first j r) work.answer work.effects) is (called_names r c same made known)

  task_names : (r : Reading) (c : FunctionCall) → runs_in w d r ≡ Some c.instance → brought w d r ≡ c.arguments → c.instance < length w.tables.instances → AllHave (IsKnownTo w c.instance) c.arguments → TaskNames r (run_task w c)
  task_names r c own same made known = by (has_halted (standing_of w c.instance))
    where
      by : (b : Bool) → TaskNames r (cond b (refuse (closed c.instance)) (tasks.run c))
      by true = refused_names r (closed c.instance)
      by false = run_task_names r c own same made known

  -- ---- calls

  method_names : (r : Reading) (f : FacetView) (m : List ℕ) (args : List Tree) (x : Option (List ℕ)) → runs_in w d r ≡ Some f.instance → brought w d r ≡ f.held ∷ args → IsFacet w f → AllByRecursion (IsHanded w) args → TaskNames r (method_task f m args x)
  method_names r f m args None own same is handed = refused_names r (no_method m)
  method_names r f m args (Some g) own same is handed = run_task_names r (record { instance = f.instance; function = g; arguments = f.held ∷ args }) own same is.made (is.held, known_all read served called meter w d good f.instance args handed)

  facet_names : (r : Reading) (f : FacetView) (m : List ℕ) (args : List Tree) → runs_in w d r ≡ Some f.instance → brought w d r ≡ f.held ∷ args → IsFacet w f → AllByRecursion (IsHanded w) args → TaskNames r (facet_task w f m args)
  facet_names r f m args own same is handed = by (has_halted (standing_of w f.instance))
    where
      by : (b : Bool) → TaskNames r (cond b (refuse (closed f.instance)) (method_task f m args (function_behind m f)))
      by true = refused_names r (closed f.instance)
      by false = method_names r f m args (function_behind m f) own same is handed

  -- of a line's call, or one that was sent
  module _ (m : List ℕ) (runs_as : (o : Obj) (args : List Tree) → runs_in w d (deliveries.target o args) ≡ instance_behind w o.kind o.number) (brings : (o : Obj) (args : List Tree) → brought w d (deliveries.target o args) ≡ facet_brought w (deliveries.target o args)) where
    on_names : (kind : ObjKind) (o : Obj) (args : List Tree) → o.kind ≡ kind → IsHanded w (trees.object o) → AllByRecursion (IsHanded w) args → TaskNames (deliveries.target o args) (task_on kind w o m args)
    on_names kinds.Facet o args e target handed =
        let made : o.number < length w.facets = subst (λ k. made_as w k o.number) e target.objects in
        facet_names (deliveries.target o args) (facet_at w.facets o.number) m args (runs_as o args ∙ ap (λ k. instance_behind w k o.number) e) (brings o args) (all_read (IsFacet w) w.facets o.number no_facet whole.facets made) handed
    on_names kind o args e target handed = no_function (deliveries.target o args) (task_on kind w o m args) (runs_as o args ∙ ap (λ k. instance_behind w k o.number) e)

    called_task_names : (res : Result Addressed Refusal) → IfOk res (IsAddressed w whole) → BeginningNames (call_beginning w m res)
    called_task_names (Ok a) is = on_names a.target.kind a.target a.arguments refl is.target is.arguments
    called_task_names (Err e) is = refused_names deliveries.nothing e

-- ---- each delivery

work_names : (read : TextReader) (served : AreGoodServices (serve_call read)) (called : AreGoodHostCalls) (meter : ℕ) (w : State) (d : Delivery) (good : IsGoodWorld (in_front d w)) → BeginningNames read served called meter w d good (beginning w d)
unfolding beginning
work_names read served called meter w (deliveries.call c) good =
    called_task_names read served called meter w (deliveries.call c) good c.method (λ o args. refl) (λ o args. refl) (addressed w c)
    (weaker_ok (IsCalled w (good_behind w (deliveries.call c) good) c) (IsAddressed w (good_behind w (deliveries.call c) good)) (addressed w c) (λ a is. is.addressed_to) (addressed_there w (good_behind w (deliveries.call c) good) c (due_behind w (deliveries.call c) good)))
work_names read served called meter w (deliveries.send s) good =
    called_task_names read served called meter w (deliveries.send s) good s.method (λ o args. refl) (λ o args. refl) (sent_to w s) (sent_there w (good_behind w (deliveries.send s) good) s (due_behind w (deliveries.send s) good))
work_names read served called meter w (deliveries.give g) good = no_function read served called meter w (deliveries.give g) good (gift_beginning g (gift_of w g)).reading (gift_beginning g (gift_of w g)).task refl
work_names read served called meter w (deliveries.tick t) good = no_function read served called meter w (deliveries.tick t) good deliveries.nothing (tick_task w.schedule.time t) refl
work_names read served called meter w (deliveries.bad r) good = no_function read served called meter w (deliveries.bad r) good deliveries.nothing (refuse r) refl
work_names read served called meter w (deliveries.start s) good =
    let d = deliveries.start s in
    let due = due_behind w d good in
    task_names read served called meter w d good deliveries.nothing (start_call s) refl refl due.made
    (object_formed w (Some s.instance) (record { kind = kinds.Zcf; number = s.instance }) refl, (handed_held w (Some s.instance) s.private_arguments due.arguments, tt))
work_names read served called meter w (deliveries.offer o) good =
    let d = deliveries.offer o in
    let due = due_behind w d good in
    task_names read served called meter w d good deliveries.nothing (handler_call o) refl refl due.function.made
    (object_formed w (Some o.instance) (record { kind = kinds.Zseat; number = o.seat }) due.seat, (handed_held w (Some o.instance) o.offer_arguments due.arguments, (due.held, tt)))
work_names read served called meter w (deliveries.wake x) good =
    let d = deliveries.wake x in
    let due = due_behind w d good in
    task_names read served called meter w d good (deliveries.time w.schedule.time) (wakeup_call x w.schedule.time) refl refl due.function.made
    (due.held, (number_known read served called meter w d good x.instance w.schedule.time, tt))
work_names read served called meter w (deliveries.notify n) good =
    let d = deliveries.notify n in
    let due = due_behind w d good in
    let s = settlement_of w n.promise in
    let told : IsHanded w (notice_tree s) = notice_handed read served called meter w d good s (settlement_handed w (good_behind w d good) n.promise due.notice.promise) in
    task_names read served called meter w d good (deliveries.settlement s) (notice_call n s) refl refl due.notice.function.made
    (due.notice.held, (handed_held w (Some n.instance) (notice_tree s) told, tt))
work_names read served called meter w (deliveries.deadline seat) good = no_function read served called meter w (deliveries.deadline seat) good deliveries.nothing (do_all (exit_if_open w seat causes.deadline)) refl

-- ---- a whole turn

turn_names : (read : TextReader) (served : AreGoodServices (serve_call read)) (called : AreGoodHostCalls) (meter : ℕ) (w : State) (d : Delivery) (good : IsGoodWorld (in_front d w))
    → (let t = delivery_turn read meter w d in (i : ℕ) → runs_in w d t.reading ≡ Some i → WorkNames w i (kept_trees w i ++ brought w d t.reading) t.answer t.effects)
unfolding delivery_turn
turn_names read served called meter w d good i runs =
    let b = beginning w d in
    let work = task_work read meter w b.task in
    then_ends w i (kept_trees w i ++ brought w d b.reading) work.answer work.effects (ending d work.answer (after_all w work.effects)) (ending_ends d work.answer (after_all w work.effects))
    (work_names read served called meter w d good i runs)

if_some : (P : ℕ → Type 0) (o : Option ℕ) → ((i : ℕ) → o ≡ Some i → P i) → IfSome o P
if_some P None each = tt
if_some P (Some i) each = each i refl

-- in a step of a good host the function that is run names only what was handed
pub step_names : (read : TextReader) → AreGoodServices (serve_call read) → AreGoodHostCalls → (s : HostState) (d : Delivery) → IsGoodHost s → IsGoodWorld (in_front d (behind s.world))
    → (let step = step_after s d (delivery_turn read s.meter (behind s.world) d) in IfSome (runner s step) (NamesWhatWasHanded s.world step.next.world step.turn))
step_names read served called s d host good =
    let w = behind s.world in
    let t = delivery_turn read s.meter w d in
    let step = step_after s d t in
    let es = t.effects in
    let rows : step.turn.events ≡ all_told w es = all_tell w es ∙ ap (λ l. l ++ all_told w es) host.untold in
    if_some (NamesWhatWasHanded s.world step.next.world step.turn) (runner s step) (λ i runs.
    let h = kept_trees w i ++ brought w d t.reading in
    let names : WorkNames w i h t.answer es = turn_names read served called s.meter w d good i runs in
    record {
      calls = subst (CallsNameOnly h) (sym rows) names.calls;
      result_given = subst (λ l. ResultNamesOnly (h ++ answers_in l) t.answer) (sym rows) names.result_given;
      state = subst (λ l. AllHave (NamesOnly (h ++ answers_in l)) (state_of (after_all w es) i)) (sym rows) names.state;
    })
