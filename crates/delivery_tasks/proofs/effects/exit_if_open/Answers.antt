use Rattle.std.proofs.Common.{ap, ◌++◌, ◌∙◌}
use Rattle.delivery_turns.specs.Tasks.{exit_if_open}
use Rattle.world_reads.specs.host_world.Worlds.{world_of}
use Rattle.delivery_turns.specs.turn_records.Views.{cause_view}
use Rattle.delivery_tasks.proofs.BareSeats.{open_shaped}
use Rattle.delivery_tasks.proofs.effects.exit_if_open.Goals as goal

pub returns-clause-shaped : goal.returns-clause-shaped
returns-clause-shaped c =
    open_shaped _ (world_of c.args.world.now) c.args.seat (cause_view c.args.cause)
    (c.in_ok-add_exit.ensures ∙ ap (λ es. es ++ exit_if_open (world_of c.args.world.now) c.args.seat (cause_view c.args.cause)) c.new-effects.ensures.view)
