use Rattle.std.proofs.Common.{◌≡◌, map, take}
use Rattle.host_data.specs.View.{trees}
use Rattle.host_data.specs.Values.{counted_tree}
use Rattle.host_data.proofs.values.counts_data.Given as goal

abbrev pub invariant-loop-entry : goal.invariant-loop-entry
invariant-loop-entry l = trees l.made.items ≡ map counted_tree (take l.entry-index l.entries)
