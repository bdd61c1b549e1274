use Rattle.std.proofs.Common.{◌≡◌, drop}
use Rattle.host_data.specs.Tree.{some_local, some_local_field}
use Rattle.host_data.specs.View.{trees, named_trees, items_of, fields_of}
use Rattle.host_data.proofs.data.+local.Given as goal

abbrev pub invariant-some_field_local-loop-item : goal.invariant-some_field_local-loop-item
invariant-some_field_local-loop-item l = some_local_field (fields_of (named_trees l.fields)) ≡ some_local_field (fields_of (named_trees (drop l.item-index l.fields)))

abbrev pub invariant-some_local-loop-item : goal.invariant-some_local-loop-item
invariant-some_local-loop-item l = some_local (items_of (trees l.items)) ≡ some_local (items_of (trees (drop l.item-index l.items)))
