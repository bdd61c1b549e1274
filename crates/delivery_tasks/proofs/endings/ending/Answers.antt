use Rattle.std.proofs.Common.{◌∙◌, ap, ◌++◌}
use Rattle.delivery_turns.specs.Endings.{ending}
use Rattle.world_reads.specs.host_world.Worlds.{world_of}
use Rattle.delivery_turns.specs.turn_records.Views.{answer_view, delivery_view}
use Rattle.delivery_tasks.proofs.BareEndings.{ending_shaped}
use Rattle.delivery_tasks.proofs.endings.ending.Goals as goal

pub returns-clause-shaped : goal.returns-clause-shaped
returns-clause-shaped c =
    let d = delivery_view c.args.delivery.now in
    let a = answer_view c.args.answer.now in
    let w = world_of c.args.world.now in
    ending_shaped _ d a w (c.in_ok-add_ending.ensures ∙ ap (λ es. es ++ ending d a w) c.new-effects.ensures.view)
