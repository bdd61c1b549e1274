use Rattle.std.specs.Prelude.{IfOk}
use Rattle.std.proofs.Common.{ℕ, List, subst}
use Rattle.contract_powers.specs.rules.Outcomes.{Outcome}
use Rattle.contract_powers.specs.contract_texts.Reader.{reader}
use Rattle.delivery_tasks.specs.delivery_turns.Tasks.{outcome_work}
use Rattle.contract_powers.specs.host_world.Worlds.{world_of}
use Rattle.delivery_tasks.specs.host_data.View.{trees}
use Rattle.delivery_tasks.specs.host_data.declared.data.Data.{Data}
use Rattle.contract_powers.specs.rules.Methods.{serve}
use Rattle.front_turns.specs.FrontTurns.{IsDone}
use Rattle.front_turns.proofs.tasks.serve_call.Goals as goal

pub returns-clause-done : goal.returns-clause-done
returns-clause-done g c =
    let w = c.args.world.now in
    let row : List ℕ → List Data → Outcome = λ m vs. serve reader (world_of w) c.args.target m (trees vs) in
    subst (λ (o : Outcome). IfOk c.carry_plan.result (λ a. IsDone w c.carry_plan.new.world a (outcome_work o))) (λ i. row (c.as_str.ensures i) (c.as_slice.ensures.value i))
    (c.carry_plan.ensures.done (row c.as_str.result.now c.as_slice.result.now) c.plan_service-row.ensures)
