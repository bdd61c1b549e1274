-- What is read for a delivery when its turn comes, what is then to be done for it, and what that comes to: where the
-- meter is spent, what a spent turn leaves (Zoe; eventual send; the meter is our own).
use Rattle.std.specs.Prelude.{ℕ, nat_lt, is_none, List, [], ◌∷◌, ◌++◌, map, Option, Some, None}
use Rattle.std.specs.Prelude.{Result, Ok, Err, if◌then◌else◌, codes, unwrap_or}
use Rattle.std.specs.Map.{lookup}
use Rattle.std.specs.Str.{bytes_eq}
use Rattle.world_laws.specs.host_data.Values.{number_tree, object_tree}
use Rattle.rules.specs.Outcomes.{Outcome}
use Rattle.rules.specs.Traces.{all_open}
use Rattle.rules.specs.Words.{has_halted, standing_of}
use Rattle.world_laws.specs.actors.Facets.{FacetView, facet_at}
use Rattle.rules.specs.jessie_semantics.Play as plays
use Rattle.rules.specs.jessie_semantics.Play.{Ending}
use Rattle.world_laws.specs.host_data.Tree.{Tree, is_local, null}
use Rattle.world_laws.specs.host_data.declared.data.Obj.{Obj}
use Rattle.world_laws.specs.host_data.declared.data.ObjKind.{ObjKind}
use Rattle.world_laws.specs.host_data.declared.data.ObjKind.TheVariants as kinds
use Rattle.world_laws.specs.promise_store.States.{SettlementView, broken}
use Rattle.world_laws.specs.refusals.Codes.{closed, local_only, no_method, refusal_tree}
use Rattle.world_laws.specs.refusals.declared.codes.Refusal.{Refusal}
use Rattle.world_laws.specs.refusals.declared.codes.Refusal.TheVariants.{Backwards}
use Rattle.rules.specs.Zoe.{TextReader}
use Rattle.world_laws.specs.turn_records.Deliveries as deliveries
use Rattle.world_laws.specs.turn_records.Deliveries.{Delivery, Notice, Offer, Reading, Start, Wakeup}
use Rattle.world_laws.specs.turn_records.Events.{Answer, given, refused, spent, threw}
use Rattle.world_laws.specs.turn_records.Messages.{LineGift}
use Rattle.world_laws.specs.turn_records.Printed.{notice_tree}
use Rattle.world_laws.specs.turn_rows.Causes as causes
use Rattle.world_laws.specs.turn_rows.Causes.{Cause}
use Rattle.world_laws.specs.world_state.Promises.{settlement_at}
use Rattle.world_laws.specs.world_state.Worlds.{Effect, State, bind_label, exit, halt, keep_state, seat_at}
use Rattle.world_laws.specs.world_state.Worlds.{set_time}
use Rattle.rules.specs.Methods.{serve as serve_call}
use Rattle.delivery_turns.specs.Functions.{FunctionCall, Run, ended, function_run, ran_out}
use Rattle.delivery_turns.specs.HostCalls.{answer_of, effects_of}
use Rattle.delivery_turns.specs.Messages.{Addressed, addressed, gift_of, sent_to}

-- ---- what is to be done

pub data Task : Type 0 where
  -- the delivery is refused before anything is done
  refuse : Refusal → Task
  -- it has these effects, and is answered null
  do_all : List Effect → Task
  -- a method of one of the host's own objects is called
  serve : Obj → List ℕ → List Tree → Task
  -- a function of an instance is run
  run : FunctionCall → Task

-- what is read for a delivery, and what is then to be done
pub record Beginning : Type 0 where
  pub reading : Reading
  pub task : Task

abbrev pub unread : Task → Beginning
unread task = record { reading = deliveries.nothing; task = task }

-- an instance that has halted refuses what is delivered to it
abbrev pub run_task : State → FunctionCall → Task
run_task w c = if has_halted (standing_of w c.instance) then refuse (closed c.instance) else run c

-- ---- calls

-- the function behind a method of a facet
abbrev pub function_behind : List ℕ → FacetView → Option (List ℕ)
function_behind method f = lookup (bytes_eq method) f.methods

-- f(held, args): a method of a facet, where it has one of the name
abbrev pub method_task : FacetView → List ℕ → List Tree → Option (List ℕ) → Task
method_task f method args None = refuse (no_method method)
method_task f method args (Some function) =
    run (record { instance = f.instance; function = function; arguments = f.held ∷ args })

abbrev pub facet_task : State → FacetView → List ℕ → List Tree → Task
facet_task w f method args =
    if has_halted (standing_of w f.instance) then refuse (closed f.instance)
    else method_task f method args (function_behind method f)

abbrev pub task_on : ObjKind → State → Obj → List ℕ → List Tree → Task
task_on kinds.Facet w o method args = facet_task w (facet_at w.facets o.number) method args
task_on _ w o method args = serve o method args

abbrev pub call_beginning : State → List ℕ → Result Addressed Refusal → Beginning
call_beginning w method (Ok a) = record {
  reading = deliveries.target a.target a.arguments;
  task = task_on a.target.kind w a.target method a.arguments;
}
call_beginning w method (Err r) = unread (refuse r)

-- ---- what else is delivered

-- the receiver's label is bound to what is given
abbrev pub gift_beginning : LineGift → Result Tree Refusal → Beginning
gift_beginning g (Ok t) = record {
  reading = deliveries.gift t;
  task = do_all (bind_label g.to g.label t ∷ []);
}
gift_beginning g (Err r) = unread (refuse r)

-- the timer doesn't go back
abbrev pub tick_task : ℕ → ℕ → Task
tick_task now t = if nat_lt t now then refuse (Backwards now t) else do_all (set_time t ∷ [])

-- a seat is left, if it is still open
abbrev pub exit_if_open : State → ℕ → Cause → List Effect
exit_if_open w seat cause = if is_none (seat_at w.seats seat).last then exit seat cause ∷ [] else []

-- start(zcf, privateArgs)
abbrev pub start_call : Start → FunctionCall
start_call s = record {
  instance = s.instance;
  function = codes "start";
  arguments = object_tree kinds.Zcf s.instance ∷ s.private_arguments ∷ [];
}

-- f(seat, offerArgs, held)
abbrev pub handler_call : Offer → FunctionCall
handler_call o = record {
  instance = o.instance;
  function = o.function;
  arguments = object_tree kinds.Zseat o.seat ∷ o.offer_arguments ∷ o.held ∷ [];
}

-- f(held, now)
abbrev pub wakeup_call : Wakeup → ℕ → FunctionCall
wakeup_call d now = record {
  instance = d.instance;
  function = d.function;
  arguments = d.held ∷ number_tree now ∷ [];
}

-- f(held, {ok, value})
abbrev pub notice_call : Notice → SettlementView → FunctionCall
notice_call n s = record {
  instance = n.instance;
  function = n.function;
  arguments = n.held ∷ notice_tree s ∷ [];
}

abbrev pub wakeup_beginning : State → Wakeup → ℕ → Beginning
wakeup_beginning w d now = record {
  reading = deliveries.time now;
  task = run_task w (wakeup_call d now);
}

abbrev pub notice_beginning : State → Notice → SettlementView → Beginning
notice_beginning w n s = record {
  reading = deliveries.settlement s;
  task = run_task w (notice_call n s);
}

-- what a promise was settled with of which a function is told
abbrev pub settlement_of : State → ℕ → SettlementView
settlement_of w p = unwrap_or (settlement_at w.promises.settled p) (broken null)

-- what is read for a delivery in the world behind it, and what is then to be done
unfoldable pub beginning : State → Delivery → Beginning
beginning w (deliveries.call c) = call_beginning w c.method (addressed w c)
beginning w (deliveries.send s) = call_beginning w s.method (sent_to w s)
beginning w (deliveries.give g) = gift_beginning g (gift_of w g)
beginning w (deliveries.tick t) = unread (tick_task w.schedule.time t)
beginning w (deliveries.bad r) = unread (refuse r)
beginning w (deliveries.start s) = unread (run_task w (start_call s))
beginning w (deliveries.offer o) = unread (run_task w (handler_call o))
beginning w (deliveries.wake d) = wakeup_beginning w d w.schedule.time
beginning w (deliveries.notify n) = notice_beginning w n (settlement_of w n.promise)
beginning w (deliveries.deadline seat) = unread (do_all (exit_if_open w seat causes.deadline))

-- ---- what is done

-- the answer, and the effects in their order
pub record Work : Type 0 where
  pub answer : Answer
  pub effects : List Effect

abbrev pub outcome_work : Outcome → Work
outcome_work row = record { answer = answer_of row; effects = effects_of row }

-- all open seats of an instance are left with a cause, by number, then it has halted
abbrev pub exits_with : Cause → List ℕ → List Effect
exits_with cause seats = map (λ seat. exit seat cause) seats

abbrev pub halt_with : Cause → State → ℕ → List Effect
halt_with cause w i = exits_with cause (all_open w i) ++ halt i ∷ []

-- what stays with its instance doesn't come out of a function: such a result counts as thrown
abbrev pub answer_of_ending : Ending → Answer
answer_of_ending (plays.returned v) = if is_local v then threw (refusal_tree local_only) else given v
answer_of_ending (plays.threw v) = if is_local v then threw (refusal_tree local_only) else threw v

-- all that a function did stands, whether it returned or threw. Where its meter was spent nothing does: from the
-- world at the turn's start its instance halts
abbrev pub run_work : ℕ → State → ℕ → Run → Work
run_work meter w i (ended e values es) = record {
  answer = answer_of_ending e;
  effects = es ++ keep_state i values ∷ [];
}
run_work meter w i ran_out = record {
  answer = spent meter;
  effects = halt_with causes.spent w i;
}

-- what a task comes to, before its turn is ended
unfoldable pub task_work : TextReader → ℕ → State → Task → Work
task_work read meter w (refuse r) = record { answer = refused r; effects = [] }
task_work read meter w (do_all es) = record { answer = given null; effects = es }
task_work read meter w (serve o method args) = outcome_work (serve_call read w o method args)
task_work read meter w (run c) = run_work meter w c.instance (function_run meter w c)
