use Rattle.std.proofs.Common.{◌≡◌, map, take}
use Rattle.host_data.specs.Tree.{text}
use Rattle.host_data.specs.View.{named_trees, trees}
use Rattle.jessie_values.proofs.built_ins.names_of.Given as goal

abbrev pub invariant-loop-name : goal.invariant-loop-name
invariant-loop-name l = trees l.names.items ≡ map (λ m. text m.0) (named_trees (take l.name-index l.fields))
