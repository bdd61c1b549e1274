use Rattle.std.proofs.Common.{◌≡◌, drop}
use Rattle.host_world.specs.Worlds.{world_of}
use Rattle.refusals.specs.host_data.View.{trees}
use Rattle.world_reads.specs.Tests.{all_pass}
use Rattle.world_reads.proofs.known_data.may_hold_all.Given as goal

abbrev pub invariant-loop-item : goal.invariant-loop-item
invariant-loop-item l = all_pass (world_of l.world) l.instance (trees l.items) ≡ all_pass (world_of l.world) l.instance (trees (drop l.item-index l.items))
