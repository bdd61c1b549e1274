use Rattle.std.proofs.Common.{ap, ◌++◌, ◌∙◌}
use Rattle.delivery_turns.specs.Tasks.{halt_with}
use Rattle.world_reads.specs.host_world.Worlds.{world_of}
use Rattle.delivery_turns.specs.turn_records.Views.{cause_view}
use Rattle.delivery_tasks.proofs.BareSeats.{halting_shaped}
use Rattle.delivery_tasks.proofs.open_seats.halt_with.Goals as goal

pub returns-clause-shaped : goal.returns-clause-shaped
returns-clause-shaped c =
    halting_shaped _ (cause_view c.args.cause) (world_of c.args.world.now) c.args.instance
    (c.in_ok-add_halt.ensures ∙ ap (λ es. es ++ halt_with (cause_view c.args.cause) (world_of c.args.world.now) c.args.instance) c.new-effects.ensures.view)
