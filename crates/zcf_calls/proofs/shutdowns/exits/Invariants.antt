use Rattle.std.specs.Prelude.{filter}
use Rattle.std.proofs.Common.{◌≡◌, ◌++◌, drop}
use Rattle.escrow_calls.specs.call_outcomes.Lists.{IsEachShaped, effects_view}
use Rattle.rules.specs.Zcf.{exits_of}
use Rattle.escrow_calls.specs.host_world.Worlds.{world_of}
use Rattle.escrow_calls.proofs.world_reads.OpenSeats.{is_open_at}
use Rattle.zcf_calls.proofs.shutdowns.exits.Given as goal

abbrev pub invariant-loop-seat : goal.invariant-loop-seat
invariant-loop-seat l = record {
  exits : effects_view l.effects ++ exits_of (filter (is_open_at (world_of l.world).seats) (drop l.seat-index l.seats)) ≡ exits_of (filter (is_open_at (world_of l.world).seats) l.seats);
  shaped : IsEachShaped l.effects;
}
