-- All that a turn moves goes to or comes from where things are kept; and the end of a turn issues nothing.
use Rattle.std.specs.Prelude.{IfOk, not}
use Rattle.std.specs.List.{AllByRecursion}
use Rattle.std.proofs.Common.{◌≡◌, ℕ, ◌+◌, ◌-◌, ◌<◌, ◌||◌, List, [], ◌∷◌, ◌++◌, Option, Some, None, Ok, Err, length, refl, subst, arith}
use Rattle.fair_laws.proofs.rule_laws.Forms.{null_formed}
use Rattle.fair_laws.proofs.rule_laws.Next.{after_next_of}
use Rattle.contract_powers.specs.rules.Licence.{IsStored}
use Rattle.contract_powers.specs.rules.Obligations.{IsRule}
use Rattle.contract_powers.specs.rules.Outcomes.{Outcome}
use Rattle.contract_powers.specs.rules.Traces.{all_open, movements_in}
use Rattle.fair_laws.proofs.rule_laws.Methods.{calls_are, services_are}
use Rattle.contract_powers.specs.contract_texts.Reader.{reader}
use Rattle.contract_powers.proofs.contract_texts.Modules.{reads_modules}
use Rattle.contract_powers.specs.ertp_mint.Stocks.{most_made}
use Rattle.fair_laws.specs.Accounts.{AreStoredEffects, IsStoredEffect}
use Rattle.contract_powers.specs.actors.Tables.{instance_at}
use Rattle.jessie_interpreter.specs.jessie_semantics.Keeping.{AllHave, CallHas, NextHas, RepliesHave}
use Rattle.jessie_interpreter.specs.jessie_semantics.Play.{Asks, Call, Ends, Play, Reply, Spends, after, call, far, send, when}
use Rattle.jessie_interpreter.specs.jessie_grammar.Syntax.{variable_names}
use Rattle.delivery_tasks.specs.host_data.Tree.{Tree, null, some_local, stays}
use Rattle.delivery_tasks.specs.host_data.View.{items_of}
use Rattle.delivery_tasks.specs.host_data.declared.data.Obj.{Obj}
use Rattle.contract_powers.specs.rights_model.declared.Movement.{Movement}
use Rattle.contract_powers.proofs.refusals.Steps.{after_need}
use Rattle.contract_powers.specs.rules.Methods.{serve as serve_call, serve_own}
use Rattle.contract_powers.specs.turn_rows.Causes as causes
use Rattle.contract_powers.specs.turn_records.Deliveries.{Delivery}
use Rattle.contract_powers.proofs.world_laws.Forms.{formed_grows}
use Rattle.contract_powers.proofs.world_laws.Kept.{good-after_all}
use Rattle.contract_powers.proofs.world_laws.Lists.{all_read_or}
use Rattle.contract_powers.specs.world_state.Good.{IsGoodWorld}
use Rattle.contract_powers.specs.world_state.Known.{Grows, IsKnownTo, module_of}
use Rattle.contract_powers.specs.world_state.Worlds as worlds
use Rattle.contract_powers.specs.world_state.Worlds.{Effect, State, after_all, halt, in_front, keep_state, moves, offer, promises_made}
use Rattle.delivery_tasks.specs.delivery_turns.Functions.{FunctionCall, Run, ended, function_run, module_play, ran_out, run, run_after}
use Rattle.delivery_tasks.specs.delivery_turns.HostCalls.{call_effects, call_reply, effects_of}
use Rattle.contract_powers.specs.rules.PromisesAndFacets.{call_rule, far_rule, send_rule, when_rule}
use Rattle.delivery_tasks.specs.delivery_turns.Tasks as tasks
use Rattle.delivery_tasks.specs.delivery_turns.Tasks.{Task, halt_with, run_work, task_work}
use Rattle.fair_laws.specs.delivery_laws.Works.{Evaluates}
use Rattle.fair_laws.proofs.delivery_laws.Asking.{all_have, evaluates, have_all, replies_so}
use Rattle.fair_laws.proofs.delivery_laws.Hosts.{IsQuiet, quiet_both, quiet_exits}
use Rattle.fair_laws.proofs.delivery_laws.Replies.{call_is}
use Rattle.fair_laws.proofs.delivery_laws.Runs.{after_more, all_grow, grows_itself, grows_on, have_end}
use Rattle.fair_laws.proofs.delivery_laws.Works.{service_rule}
use Rattle.front_turns.specs.KnownTasks.{IsThere}
use Rattle.front_turns.proofs.EffectLists.{all_both}

-- ---- effects that move nothing of their own

quiet_stored_one : (e : Effect) → IsQuiet e → IsStoredEffect e
quiet_stored_one (moves ms) q = absurd q
quiet_stored_one e q = tt

pub quiet_stored : (es : List Effect) → AllByRecursion IsQuiet es → AreStoredEffects es
quiet_stored [] q = tt
quiet_stored (e ∷ es) q = (quiet_stored_one e q.0, quiet_stored es q.1)

-- ---- rows

first_stored : (ms rest : List Movement) → AllByRecursion IsStored (ms ++ rest) → AllByRecursion IsStored ms
first_stored [] rest all = tt
first_stored (m ∷ ms) rest all = (all.0, first_stored ms rest all.1)

later_stored : (ms rest : List Movement) → AllByRecursion IsStored (ms ++ rest) → AllByRecursion IsStored rest
later_stored [] rest all = all
later_stored (m ∷ ms) rest all = later_stored ms rest all.1

moved_stored : (es : List Effect) → AllByRecursion IsStored (movements_in es) → AreStoredEffects es
moved_stored [] all = tt
moved_stored (moves ms ∷ es) all = (first_stored ms (movements_in es) all, moved_stored es (later_stored ms (movements_in es) all))
moved_stored (offer o ∷ es) all = (tt, moved_stored es (later_stored (worlds.burn_and_escrows o) (movements_in es) all))
moved_stored (e ∷ es) all = (tt, moved_stored es all)

abbrev HasStored : Outcome → Type 0
HasStored row = IfOk row (λ x. AreStoredEffects x.1)

stored_row : (row : Outcome) → HasStored row → AreStoredEffects (effects_of row)
stored_row (Err r) is = tt
stored_row (Ok (answer, es)) is = is

row_stored : (w : State) (caller : Option ℕ) (o : Obj) (m : List ℕ) (args : List Tree) (row : Outcome) → IfOk row (λ x. IsRule w caller o m args x.0 x.1) → AreStoredEffects (effects_of row)
row_stored w caller o m args (Err r) is = tt
row_stored w caller o m args (Ok (answer, es)) is = moved_stored es is.stored

send_stored : (w : State) (i : ℕ) (target : Obj) (m : List ℕ) (args : List Tree) → HasStored (send_rule w i target m args)
unfolding send_rule
send_stored w i target m args =
    after_need (λ x. AreStoredEffects x.1) (not (stays target.kind || some_local (items_of args))) _ _
    (λ e. after_next_of (λ x. AreStoredEffects x.1) (promises_made w) most_made _ (λ room. (tt, tt)))

when_stored : (w : State) (i : ℕ) (promise : Obj) (f : List ℕ) (held : Tree) → HasStored (when_rule w i promise f held)
unfolding when_rule
when_stored w i promise f held = after_next_of (λ x. AreStoredEffects x.1) (promises_made w) most_made _ (λ room. (tt, tt))

far_stored : (w : State) (i : ℕ) (ms : List (List ℕ × List ℕ)) (held : Tree) → HasStored (far_rule w i ms held)
unfolding far_rule
far_stored w i ms held = after_next_of (λ x. AreStoredEffects x.1) (length w.facets) most_made _ (λ room. (tt, tt))

module _ (w : State) (i : ℕ) (good : IsGoodWorld w) (made : i < length w.tables.instances) where
  call_stored : (c : Call) → CallHas (IsKnownTo w i) c → AreStoredEffects (effects_of (call_rule w i c))
  call_stored (call o m args) known =
      row_stored w (Some i) o m args (serve_own w o m args) (calls_are w i o m args (record {
        good = good;
        hosted = made;
        target = known.0.objects;
        arguments = λ place. all_read_or (IsKnownTo w i) args (place - 1) null (all_have (IsKnownTo w i) args known.1) (null_formed w (Some i));
      }))
  call_stored (send o m args) known = stored_row (send_rule w i o m args) (send_stored w i o m args)
  call_stored (when o f held) known = stored_row (when_rule w i o f held) (when_stored w i o f held)
  call_stored (far x ms held) known = stored_row (far_rule w i ms held) (far_stored w i ms held)

-- ---- functions

abbrev IsStoredRun : Run → Type 0
IsStoredRun (ended e values es) = AreStoredEffects es
IsStoredRun ran_out = Unit {0}

then_stored : (es : List Effect) (r : Run) → AreStoredEffects es → IsStoredRun r → IsStoredRun (run_after es r)
then_stored es (ended e values fs) one two = all_both IsStoredEffect es fs one two
then_stored es ran_out one two = tt

module _ (start : State) (i n : ℕ) (made : i < length start.tables.instances) (p0 : Play) (asks : Evaluates start i n p0) where
  run_stored : (p : Play) (rs : List Reply) (w : State) → after p0 rs ≡ p → IsGoodWorld w → Grows start w → RepliesHave (IsKnownTo w i) rs
      → IsStoredRun (run w i p)
  run_stored (Ends e values) rs w is good grown known = tt
  run_stored Spends rs w is good grown known = tt
  run_stored (Asks c go) rs w is good grown known =
      let next : CallHas (IsKnownTo w i) c = subst (λ q. NextHas (IsKnownTo w i) n q) is (asks.each w grown rs known) in
      let here : i < length w.tables.instances = omega (arith, made, grown.instances.more) in
      let work = call_is calls_are w i good here c next in
      let es = call_effects w i c in
      let r = call_reply w i c in
      let known_then : RepliesHave (IsKnownTo (after_all w es) i) (rs ++ r ∷ []) = have_end (after_all w es) i rs r (replies_so (formed_grows w (after_all w es) (all_grow w es) (Some i)) rs known) work.known in
      then_stored es (run (after_all w es) i (go r)) (tt, call_stored w i good here c next)
      (run_stored (go r) (rs ++ r ∷ []) (after_all w es) (after_more p0 rs c go r is) (good-after_all w es work.good good) (grows_on start w (after_all w es) grown (all_grow w es)) known_then)

halts_stored : (w : State) (i : ℕ) → AreStoredEffects (halt_with causes.spent w i)
halts_stored w i = quiet_stored (halt_with causes.spent w i) (quiet_both _ (halt i ∷ []) (quiet_exits causes.spent (all_open w i)) (tt, tt))

work_stored : (meter : ℕ) (w : State) (i : ℕ) (r : Run) → IsStoredRun r → AreStoredEffects (run_work meter w i r).effects
work_stored meter w i (ended e values es) is = all_both IsStoredEffect es (keep_state i values ∷ []) is (tt, tt)
work_stored meter w i ran_out is = halts_stored w i

function_stored : (meter : ℕ) (w : State) (c : FunctionCall) → IsGoodWorld w → c.instance < length w.tables.instances → AllHave (IsKnownTo w c.instance) c.arguments → IsStoredRun (function_run meter w c)
unfolding function_run
function_stored meter w c good made known =
    let m = module_of w.tables c.instance in
    let values = (instance_at w.tables.instances c.instance).state in
    let kept : AllHave (IsKnownTo w c.instance) values = have_all (IsKnownTo w c.instance) values (good.instances.each c.instance made).state in
    let p = module_play m c.function c.arguments values meter in
    let asks = evaluates w c.instance good made c.function c.arguments values meter known kept in
    run_stored w c.instance (length (variable_names m)) made p asks p [] w refl good (grows_itself w) tt

-- ---- tasks

module _ (meter : ℕ) (w : State) (d : Delivery) (good : IsGoodWorld (in_front d w)) (here : IsGoodWorld w) where
  pub tasked_stored : (task : Task) → IsThere w task → AreStoredEffects (task_work reader meter w task).effects
  unfolding task_work
  tasked_stored (tasks.refuse r) is = tt
  tasked_stored (tasks.do_all es) is = is
  tasked_stored (tasks.serve o method args) is =
      row_stored w None o method args (serve_call reader w o method args)
      (service_rule reader w d o method args (services_are reader reads_modules) good is.target is.arguments)
  tasked_stored (tasks.run c) is = work_stored meter w c.instance (function_run meter w c) (function_stored meter w c here is.made is.arguments)
