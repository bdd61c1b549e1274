use Rattle.std.proofs.Common.{◌≡◌, ◌++◌, drop}
use Rattle.std.specs.Vec.Iter.{into_iter_items}
use Rattle.jessie_semantics.specs.host_data.View.{trees, named_trees}
use Rattle.jessie_semantics.specs.Rules.{pairs}
use Rattle.jessie_machine.proofs.names.bind_all.Given as goal

abbrev pub invariant-loop-name : goal.invariant-loop-name
invariant-loop-name l = named_trees l.bound ++ pairs (drop l.name-index l.names) (trees (into_iter_items l.values)) ≡ pairs l.names (trees l.fn.values.items)
