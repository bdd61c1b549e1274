use Rattle.std.proofs.Common.{◌≡◌, ◌<◌}
use Rattle.delivery_turns.specs.Endings.{last_followed}
use Rattle.world_reads.specs.host_world.Worlds.{world_of}
use Rattle.delivery_turns.proofs.promise_store.Forest.{height}
use Rattle.delivery_turns.specs.world_state.Worlds.{promises_made}
use Rattle.delivery_tasks.proofs.settling.leads_back.Given as goal

abbrev pub invariant-loop-next : goal.invariant-loop-next
invariant-loop-next l =
    (last_followed (world_of l.world).promises.follows l.at ≡ last_followed (world_of l.world).promises.follows l.target)
    × (l.at < promises_made (world_of l.world))

abbrev pub decreases-loop-next : goal.decreases-loop-next
decreases-loop-next l = height (world_of l.world).promises.follows l.at
