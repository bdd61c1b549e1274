use Rattle.std.proofs.Common.{◌≡◌, take}
use Rattle.host_data.specs.View.{trees, named_trees}
use Rattle.host_data.proofs.data.+copy.Given as goal

abbrev pub invariant-copy_fields-loop-name : goal.invariant-copy_fields-loop-name
invariant-copy_fields-loop-name l = named_trees l.copies.items ≡ named_trees (take l.name-index l.fields)

abbrev pub invariant-copy_items-loop-item : goal.invariant-copy_items-loop-item
invariant-copy_items-loop-item l = trees l.copies.items ≡ trees (take l.item-index l.items)
