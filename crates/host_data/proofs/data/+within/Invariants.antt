use Rattle.std.proofs.Common.{◌≡◌, drop, nat_le}
use Rattle.host_data.specs.Tree.{items_nesting, fields_nesting}
use Rattle.host_data.specs.View.{trees, named_trees, items_of, fields_of}
use Rattle.host_data.proofs.data.+within.Given as goal

abbrev pub invariant-fields_within-loop-item : goal.invariant-fields_within-loop-item
invariant-fields_within-loop-item l = nat_le (fields_nesting (fields_of (named_trees l.fields))) l.limit ≡ nat_le (fields_nesting (fields_of (named_trees (drop l.item-index l.fields)))) l.limit

abbrev pub invariant-all_within-loop-item : goal.invariant-all_within-loop-item
invariant-all_within-loop-item l = nat_le (items_nesting (items_of (trees l.items))) l.limit ≡ nat_le (items_nesting (items_of (trees (drop l.item-index l.items)))) l.limit
