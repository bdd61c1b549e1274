use Rattle.std.specs.Prelude.{filter}
use Rattle.std.proofs.Common.{◌≡◌, ◌++◌, drop}
use Rattle.world_reads.specs.call_outcomes.Lists.{effects_view}
use Rattle.delivery_turns.specs.Tasks.{exits_with}
use Rattle.world_reads.specs.host_world.Worlds.{world_of}
use Rattle.delivery_turns.specs.turn_records.Views.{cause_view}
use Rattle.world_reads.proofs.OpenSeats.{is_open_at}
use Rattle.delivery_tasks.proofs.open_seats.add_exits.Given as goal

abbrev pub invariant-loop-seat : goal.invariant-loop-seat
invariant-loop-seat l =
    effects_view l.effects ++ exits_with (cause_view l.cause) (filter (is_open_at (world_of l.world).seats) (drop l.seat-index l.seat-items))
    ≡ effects_view l.initial.effects ++ exits_with (cause_view l.cause) (filter (is_open_at (world_of l.world).seats) l.seat-items)
