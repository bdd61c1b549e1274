use Rattle.std.proofs.Common.{◌≡◌, map, take}
use Rattle.host_data.specs.View.{trees}
use Rattle.host_data.specs.Values.{key_tree}
use Rattle.host_data.proofs.values.keys_data.Given as goal

abbrev pub invariant-loop-entry : goal.invariant-loop-entry
invariant-loop-entry l = trees l.made.items ≡ map key_tree (take l.entry-index l.entries)
