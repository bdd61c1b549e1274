use Rattle.std.proofs.Common.{◌≡◌, take}
use Rattle.world_reads.specs.host_world.Worlds.{world_of}
use Rattle.rules.specs.Rearranging.{states_for}
use Rattle.rearrange_calls.proofs.transfer_states.states_of.Given as goal

abbrev pub invariant-loop-seat : goal.invariant-loop-seat
invariant-loop-seat l = l.states ≡ states_for (world_of l.world) (take l.seat-index l.once)
