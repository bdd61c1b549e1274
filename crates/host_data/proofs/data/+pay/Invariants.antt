use Rattle.std.proofs.Common.{◌≡◌, ◌+◌, drop}
use Rattle.host_data.specs.Tree.{items_size, fields_size}
use Rattle.host_data.specs.View.{trees, named_trees, items_of, fields_of}
use Rattle.host_data.proofs.data.+pay.Given as goal

abbrev pub invariant-pay_fields-loop-name : goal.invariant-pay_fields-loop-name
invariant-pay_fields-loop-name l = l.left + fields_size (fields_of (named_trees l.fields)) ≡ l.initial.left + fields_size (fields_of (named_trees (drop l.name-index l.fields)))

abbrev pub invariant-pay_items-loop-item : goal.invariant-pay_items-loop-item
invariant-pay_items-loop-item l = l.left + items_size (items_of (trees l.items)) ≡ l.initial.left + items_size (items_of (trees (drop l.item-index l.items)))
