use Rattle.std.specs.Prelude.{Ok}
use Rattle.std.proofs.Common.{◌∙◌, ap, sym}
use Rattle.contract_powers.proofs.world_effects.JoinedStores.{back_on}
use Rattle.delivery_tasks.specs.Views.{function_call_view}
use Rattle.front_turns.proofs.TurnEffects.{start_stays}
use Rattle.front_turns.proofs.TaskWork.{ended_done, spent_done}
use Rattle.front_turns.proofs.tasks.run_task.Goals as goal

pub returns-in-Ok-Ended-clause-done : goal.returns-in-Ok-Ended-clause-done
returns-in-Ok-Ended-clause-done g c =
    ended_done c.args.meter c.from-most.result c.args.world c.run_function-world.result.0 (function_call_view c.args.call) c.run_function-world.result.1 c.in-Ok-Ended.answer c.from-most.ensures
    c.run_function-world.ensures.came (c.in-Ok-Ended.is ∙ ap Ok c.in-Ok-Ended.field-0-is)

pub returns-in-Ok-Spent-clause-done : goal.returns-in-Ok-Spent-clause-done
returns-in-Ok-Spent-clause-done g c =
    let w = c.args.world in
    spent_done c.args.meter c.from-most.result w c.run_function-world.result.0 c.undo_and_halt.result.0 (function_call_view c.args.call) c.run_function-world.result.1 c.undo_and_halt.result.1 c.from-most.ensures
    c.run_function-world.ensures.came (c.in-Ok-Spent.is ∙ ap Ok c.in-Ok-Spent.field-0-is)
    (c.undo_and_halt.ensures.done w (sym (start_stays w c.run_function-world.result.0 c.run_function-world.ensures.back ∙ c.requires.begun.same)))

pub returns-in-Ok-Spent-clause-back : goal.returns-in-Ok-Spent-clause-back
returns-in-Ok-Spent-clause-back g c = back_on c.args.world c.run_function-world.result.0 c.undo_and_halt.result.0 c.run_function-world.ensures.back c.undo_and_halt.ensures.back
