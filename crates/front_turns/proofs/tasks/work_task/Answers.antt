use Rattle.std.proofs.Common.{ap}
use Rattle.contract_powers.specs.call_outcomes.Lists.{effects_view}
use Rattle.delivery_tasks.specs.Views.{task_view}
use Rattle.delivery_tasks.specs.host_data.View.{trees}
use Rattle.front_turns.proofs.TaskWork.{all_done, all_good, refused_done, serve_done, serve_good}
use Rattle.front_turns.proofs.tasks.work_task.Goals as goal

pub carry_and_answer-done-requires-clause-good : goal.carry_and_answer-done-requires-clause-good
carry_and_answer-done-requires-clause-good g c = all_good c.args.meter c.args.world (task_view c.args.task) (effects_view c.in-DoAll.effects) (ap task_view c.in-DoAll.is) c.requires.good

pub serve_call-done-requires-clause-good : goal.serve_call-done-requires-clause-good
serve_call-done-requires-clause-good g c =
    serve_good c.args.meter c.args.world (task_view c.args.task) c.in-Serve.target c.in-Serve.method (trees c.in-Serve.args.items) (ap task_view c.in-Serve.is) c.requires.good

pub returns-in-Refuse-clause-done : goal.returns-in-Refuse-clause-done
returns-in-Refuse-clause-done g c = refused_done c.args.meter c.args.world (task_view c.args.task) c.in-Refuse.refusal c.requires.begun.turn (ap task_view c.in-Refuse.is)

pub returns-in-DoAll-clause-done : goal.returns-in-DoAll-clause-done
returns-in-DoAll-clause-done g c =
    all_done c.args.meter c.args.world (task_view c.args.task) (effects_view c.in-DoAll.effects) c.carry_and_answer-done.new.world c.carry_and_answer-done.result (ap task_view c.in-DoAll.is) c.carry_and_answer-done.ensures.answer c.carry_and_answer-done.ensures.ok

pub returns-in-Serve-clause-done : goal.returns-in-Serve-clause-done
returns-in-Serve-clause-done g c =
    serve_done c.args.meter c.args.world (task_view c.args.task) c.in-Serve.target c.in-Serve.method (trees c.in-Serve.args.items) c.serve_call-done.new.world c.serve_call-done.result (ap task_view c.in-Serve.is) c.serve_call-done.ensures.done
