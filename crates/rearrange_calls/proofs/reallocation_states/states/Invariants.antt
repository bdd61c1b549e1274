use Rattle.std.proofs.Common.{◌≡◌, map, take}
use Rattle.world_reads.specs.host_world.Worlds.{world_of}
use Rattle.rules.specs.States.{state_of}
use Rattle.rearrange_calls.proofs.reallocation_states.states.Given as goal

abbrev pub invariant-loop-seat : goal.invariant-loop-seat
invariant-loop-seat l = l.states ≡ map (state_of (world_of l.world)) (take l.seat-index l.once)
