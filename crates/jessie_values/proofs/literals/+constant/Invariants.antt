use Rattle.std.proofs.Common.{◌≡◌, map, take}
use Rattle.host_data.specs.View.{named_trees, trees}
use Rattle.jessie_values.specs.Literals.{constant_tree}
use Rattle.jessie_values.proofs.literals.+constant.Given as goal

abbrev pub invariant-items_data-loop-constant : goal.invariant-items_data-loop-constant
invariant-items_data-loop-constant l = trees l.items.items ≡ map constant_tree (take l.constant-index l.constants)

abbrev pub invariant-fields_data-loop-name : goal.invariant-fields_data-loop-name
invariant-fields_data-loop-name l = named_trees l.fields.items ≡ map (λ c. (c.0, constant_tree c.1)) (take l.name-index l.constants)
