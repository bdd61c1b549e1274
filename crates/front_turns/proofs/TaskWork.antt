-- What tasks come to, task by task.
use Rattle.std.specs.Prelude.{IfOk, OnOk}
use Rattle.std.specs.declared.alloc.AllocError.{AllocError}
use Rattle.std.proofs.Common.{◌≡◌, ℕ, ◌*◌, ◌^◌, List, Result, Ok, Err, refl, sym, ◌∙◌, ap, subst, arith}
use Rattle.contract_powers.specs.world_effects.CarriedEffects.{AreCarried, IsInTurn}
use Rattle.contract_powers.specs.contract_texts.Reader.{reader}
use Rattle.delivery_tasks.specs.delivery_turns.Functions.{FunctionCall, Run, function_run, ran_out}
use Rattle.delivery_tasks.specs.delivery_turns.HostCalls.{effects_of}
use Rattle.delivery_tasks.specs.delivery_turns.Tasks.{Task, do_all, halt_with, refuse, outcome_work, run, run_work, task_work}
use Rattle.delivery_tasks.specs.delivery_turns.Tasks.{serve as serve_task}
use Rattle.contract_powers.specs.host_world.Worlds.{world_of}
use Rattle.contract_powers.specs.host_world.declared.World.{World}
use Rattle.delivery_tasks.specs.host_data.Tree.{Tree}
use Rattle.delivery_tasks.specs.host_data.declared.data.Data.TheVariants.{Null}
use Rattle.delivery_tasks.specs.host_data.declared.data.Obj.{Obj}
use Rattle.delivery_tasks.proofs.host_data.Views.{tree-Null}
use Rattle.contract_powers.specs.refusals.declared.codes.Refusal.{Refusal}
use Rattle.contract_powers.specs.turn_records.Views.{answer_view}
use Rattle.contract_powers.specs.turn_records.declared.events.Answer.{Answer}
use Rattle.contract_powers.specs.turn_records.declared.events.Answer.TheVariants as answers
use Rattle.contract_powers.specs.turn_records.Events.{given}
use Rattle.contract_powers.specs.turn_rows.Causes as causes
use Rattle.contract_powers.specs.world_state.Good.{AreGood}
use Rattle.contract_powers.specs.world_state.Worlds.{Effect}
use Rattle.contract_powers.specs.rules.Methods.{serve}
use Rattle.front_turns.specs.FunctionRuns.{CameTo}
use Rattle.front_turns.specs.FrontTurns.{IsBegun, IsDone, work_of}
use Rattle.front_turns.specs.declared.function_runs.Ran.{Ran}
use Rattle.front_turns.specs.declared.function_runs.Ran.TheVariants.{Ended, Spent}
use Rattle.front_turns.proofs.TurnEffects.{carried_by, carried_nothing}

-- ---- functions

-- the meter is the same as a longer number
came_ok : (meter most : ℕ) (old new : World) (c : FunctionCall) (r : Result Ran AllocError) (ran : Ran) → most ≡ meter → IfOk r (CameTo most c old new) → r ≡ Ok ran → CameTo meter c old new ran
came_ok meter most old new c r ran same is e =
    subst (λ (n : ℕ). CameTo n c old new ran) same (subst (λ (x : Result Ran AllocError). IfOk x (CameTo most c old new)) e is)

pub ended_done : (meter most : ℕ) (old new : World) (c : FunctionCall) (r : Result Ran AllocError) (a : Answer) → most ≡ meter → IfOk r (CameTo most c old new) → r ≡ Ok (Ended a) → IsDone old new a (work_of meter old (run c))
unfolding task_work
ended_done meter most old new c r a same is e = came_ok meter most old new c r (Ended a) same is e

pub spent_done : (meter most : ℕ) (old mid new : World) (c : FunctionCall) (r : Result Ran AllocError) (x : Result Answer AllocError) → most ≡ meter → IfOk r (CameTo most c old mid) → r ≡ Ok Spent
    → IfOk x (λ a. (a ≡ answers.Spent meter) × AreCarried old new (halt_with causes.spent (world_of old) c.instance))
    → IfOk x (λ a. IsDone old new a (work_of meter old (run c)))
unfolding task_work
spent_done meter most old mid new c r (Err fault) same is e done = tt
spent_done meter most old mid new c r (Ok a) same is e done =
    let out : function_run meter (world_of old) c ≡ ran_out = came_ok meter most old mid c r Spent same is e in
    record {
      answer = ap answer_view done.0 ∙ ap (λ (ran : Run). (run_work meter (world_of old) c.instance ran).answer) (sym out);
      carried = carried_by old new (halt_with causes.spent (world_of old) c.instance) _ (ap (λ (ran : Run). (run_work meter (world_of old) c.instance ran).effects) (sym out)) done.1;
    }

-- ---- the other tasks

module _ (meter : ℕ) (old : World) (task : Task) where
  pub refused_done : (r : Refusal) → IsInTurn old → task ≡ refuse r → IsDone old old (answers.Refused r) (work_of meter old task)
  unfolding task_work
  refused_done r turn is = subst (λ (t : Task). IsDone old old (answers.Refused r) (work_of meter old t)) (sym is) (record { answer = refl; carried = carried_nothing old turn })

  pub all_good : (es : List Effect) → task ≡ do_all es → AreGood (world_of old) (work_of meter old task).effects → AreGood (world_of old) es
  unfolding task_work
  all_good es is good = subst (λ (t : Task). AreGood (world_of old) (work_of meter old t).effects) is good

  pub all_done : (es : List Effect) (new : World) (r : Result Answer AllocError) → task ≡ do_all es → IfOk r (λ a. a ≡ answers.Given Null) → OnOk r (AreCarried old new es)
      → IfOk r (λ a. IsDone old new a (work_of meter old task))
  unfolding task_work
  all_done es new (Err fault) is answer done = tt
  all_done es new (Ok a) is answer done =
      subst (λ (t : Task). IsDone old new a (work_of meter old t)) (sym is) (record { answer = ap answer_view answer ∙ ap given tree-Null; carried = done })

  pub serve_good : (o : Obj) (method : List ℕ) (args : List Tree) → task ≡ serve_task o method args → AreGood (world_of old) (work_of meter old task).effects
      → AreGood (world_of old) (effects_of (serve reader (world_of old) o method args))
  unfolding task_work
  serve_good o method args is good = subst (λ (t : Task). AreGood (world_of old) (work_of meter old t).effects) is good

  pub serve_done : (o : Obj) (method : List ℕ) (args : List Tree) (new : World) (r : Result Answer AllocError) → task ≡ serve_task o method args
      → IfOk r (λ a. IsDone old new a (outcome_work (serve reader (world_of old) o method args)))
      → IfOk r (λ a. IsDone old new a (work_of meter old task))
  unfolding task_work
  serve_done o method args new r is done = subst (λ (t : Task). IfOk r (λ a. IsDone old new a (work_of meter old t))) (sym is) done
