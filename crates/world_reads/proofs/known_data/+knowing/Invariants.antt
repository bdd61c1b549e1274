use Rattle.std.proofs.Common.{◌≡◌, drop}
use Rattle.host_world.specs.Worlds.{world_of}
use Rattle.refusals.specs.host_data.View.{fields_of, items_of, named_trees, trees}
use Rattle.world_reads.specs.Tests.{knows_fields, knows_items}
use Rattle.world_reads.proofs.known_data.+knowing.Given as goal

abbrev pub invariant-knows_all-loop-item : goal.invariant-knows_all-loop-item
invariant-knows_all-loop-item l = knows_items (world_of l.world) l.instance (items_of (trees l.items)) ≡ knows_items (world_of l.world) l.instance (items_of (trees (drop l.item-index l.items)))

abbrev pub invariant-knows_each-loop-name : goal.invariant-knows_each-loop-name
invariant-knows_each-loop-name l = knows_fields (world_of l.world) l.instance (fields_of (named_trees l.fields)) ≡ knows_fields (world_of l.world) l.instance (fields_of (named_trees (drop l.name-index l.fields)))
