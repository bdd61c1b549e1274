use Rattle.std.proofs.Common.{ap, refl, subst, sym}
use Rattle.contract_powers.proofs.world_effects.JoinedStores.{back_on}
use Rattle.delivery_tasks.specs.Views.{beginning_view}
use Rattle.delivery_tasks.specs.delivery_turns.Tasks.{Beginning}
use Rattle.contract_powers.specs.host_world.Worlds.{world_of}
use Rattle.contract_powers.specs.world_state.Good.{AreGood}
use Rattle.front_turns.specs.KnownTasks.{IsThere}
use Rattle.front_turns.specs.FrontTurns.{work_of}
use Rattle.front_turns.proofs.WholeTurns.{answer_out, delivered, done_by, label_free, still_fronted, task_there, turn_work}
use Rattle.front_turns.proofs.turns.work_delivery.Goals as goal

pub work_task-world-requires-clause-there : goal.work_task-world-requires-clause-there
work_task-world-requires-clause-there g c =
    subst (λ (b : Beginning). IsThere (world_of c.args.world) b.task) (sym c.requires.begins) (task_there c.args.meter c.args.world c.requires.begun)

pub work_task-world-requires-clause-good : goal.work_task-world-requires-clause-good
work_task-world-requires-clause-good g c =
    subst (λ (b : Beginning). AreGood (world_of c.args.world) (work_of c.args.meter c.args.world b.task).effects) (sym c.requires.begins)
    (turn_work c.args.meter c.args.world c.requires.begun).good

pub carry_end-requires-clause-fronted : goal.carry_end-requires-clause-fronted
carry_end-requires-clause-fronted g c =
    let n = c.args.meter in
    let w = c.args.world in
    let mid = c.work_task-world.result.0 in
    still_fronted n w c.requires.begun mid c.in-Ok.answer (done_by n w mid (beginning_view c.args.begun) c.work_task-world.result.1 c.in-Ok.answer c.requires.begins c.work_task-world.ensures.done c.in-Ok.is)

pub carry_end-requires-clause-out : goal.carry_end-requires-clause-out
carry_end-requires-clause-out g c =
    let n = c.args.meter in
    let w = c.args.world in
    let mid = c.work_task-world.result.0 in
    answer_out n w c.requires.begun mid c.in-Ok.answer (done_by n w mid (beginning_view c.args.begun) c.work_task-world.result.1 c.in-Ok.answer c.requires.begins c.work_task-world.ensures.done c.in-Ok.is)

pub carry_end-requires-clause-free : goal.carry_end-requires-clause-free
carry_end-requires-clause-free g c =
    let n = c.args.meter in
    let w = c.args.world in
    let mid = c.work_task-world.result.0 in
    label_free n w c.requires.begun mid c.in-Ok.answer (done_by n w mid (beginning_view c.args.begun) c.work_task-world.result.1 c.in-Ok.answer c.requires.begins c.work_task-world.ensures.done c.in-Ok.is)

pub returns-in-Ok-carry_end-clause-done : goal.returns-in-Ok-carry_end-clause-done
returns-in-Ok-carry_end-clause-done g c =
    let n = c.args.meter in
    let w = c.args.world in
    let mid = c.work_task-world.result.0 in
    delivered n w c.requires.begun mid c.in-Ok.answer (done_by n w mid (beginning_view c.args.begun) c.work_task-world.result.1 c.in-Ok.answer c.requires.begins c.work_task-world.ensures.done c.in-Ok.is)
    c.carry_end.new.world (record { reading = c.args.begun.reading; answer = c.in-Ok.answer }) c.in-Ok-carry_end.ensures.ok refl (ap (λ (b : Beginning). b.reading) c.requires.begins)

pub returns-in-Ok-carry_end-clause-back : goal.returns-in-Ok-carry_end-clause-back
returns-in-Ok-carry_end-clause-back g c = back_on c.args.world c.work_task-world.result.0 c.carry_end.new.world c.work_task-world.ensures.back c.carry_end.ensures.back

pub returns-in-Err-clause-back : goal.returns-in-Err-clause-back
returns-in-Err-clause-back g c = back_on c.args.world c.work_task-world.result.0 c.carry_end.new.world c.work_task-world.ensures.back c.carry_end.ensures.back
