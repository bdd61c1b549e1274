use Rattle.std.specs.Prelude.{IfOk}
use Rattle.std.specs.declared.alloc.AllocError.{AllocError}
use Rattle.std.proofs.Common.{Result, subst, sym}
use Rattle.contract_powers.proofs.world_effects.JoinedStores.{back_on}
use Rattle.delivery_tasks.specs.delivery_turns.Functions.{FunctionCall}
use Rattle.front_turns.proofs.RunEnds.{came_so, can_end, play_of, was_ok}
use Rattle.front_turns.proofs.function_runs.run_function.Goals as goal
use Rattle.front_turns.proofs.function_runs.run_function.Goals.{in-Err-outcome, in-Ok-outcome}
use Rattle.front_turns.specs.FunctionRuns.{CameTo, WentOn}
use Rattle.front_turns.specs.declared.function_runs.Ran.{Ran}
use Rattle.contract_powers.specs.host_world.Worlds.{IsUndoable, world_of}
use Rattle.contract_powers.specs.host_world.declared.World.{World}
use Rattle.jessie_interpreter.specs.Outcomes.{outcome}
use Rattle.jessie_interpreter.specs.declared.evaluation.Outcome.{Outcome}
use Rattle.delivery_tasks.specs.host_data.View.{trees}

pub end_run-ran-requires-clause-can : goal.end_run-ran-requires-clause-can
end_run-ran-requires-clause-can g c =
    let old = c.args.world in
    let mid = c.run_in-world.result.0 in
    let call : FunctionCall = record { instance = c.args.instance; function = c.args.function.now; arguments = trees c.args.arguments.items } in
    let values = trees c.run_in-world.new.state.items in
    let came = c.in-Ok-outcome.outcome in
    can_end old mid call c.args.meter c.requires.turn.good c.requires.made c.requires.known (outcome came values)
    (was_ok c.run_in-world.result.1 came (λ (o : Outcome). WentOn c.args.instance (play_of c.args.meter (world_of old) call) old mid (outcome o values)) c.in-Ok-outcome.is c.run_in-world.ensures.went)

pub returns-clause-came : goal.returns-clause-came
returns-clause-came g c =
    let old = c.args.world in
    let mid = c.run_in-world.result.0 in
    let call : FunctionCall = record { instance = c.args.instance; function = c.args.function.now; arguments = trees c.args.arguments.items } in
    let values = trees c.run_in-world.new.state.items in
    elim c.match-outcome.branch [
      | in-Ok-outcome w ↦ subst (λ (x : Result Ran AllocError × World). IfOk x.0 (CameTo c.args.meter call old x.1)) (λ k. (sym w.ran-is k, sym w.world-is k))
          (came_so old mid w.end_run-ran.new.world call c.args.meter (outcome w.in-Ok-outcome.outcome values) w.end_run-ran.result
          (was_ok c.run_in-world.result.1 w.in-Ok-outcome.outcome (λ (o : Outcome). WentOn c.args.instance (play_of c.args.meter (world_of old) call) old mid (outcome o values)) w.in-Ok-outcome.is c.run_in-world.ensures.went)
          w.end_run-ran.ensures.ended)
      | in-Err-outcome w ↦ subst (λ (r : Result Ran AllocError). IfOk r (CameTo c.args.meter call old c.match-outcome.world)) (sym w.ran-is) tt
    ]

pub returns-clause-back : goal.returns-clause-back
returns-clause-back g c =
    let old = c.args.world in
    let mid = c.run_in-world.result.0 in
    elim c.match-outcome.branch [
      | in-Ok-outcome w ↦ subst (λ (x : World). IsUndoable old x) (sym w.world-is) (back_on old mid w.end_run-ran.new.world c.run_in-world.ensures.back w.end_run-ran.ensures.back)
      | in-Err-outcome w ↦ subst (λ (x : World). IsUndoable old x) (sym w.world-is) c.run_in-world.ensures.back
    ]
