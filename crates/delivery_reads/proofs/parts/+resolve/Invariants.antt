use Rattle.std.proofs.Common.{◌≡◌, ◌+◌, drop}
use Rattle.delivery_turns.specs.Messages.{resolved_all, resolved_fields}
use Rattle.host_data.specs.Tree.{fields_size, items_size}
use Rattle.host_data.specs.View.{fields_of, items_of, named_trees, trees}
use Rattle.delivery_reads.specs.Reads.{named_views, read_in}
use Rattle.delivery_turns.specs.turn_records.Views.{field_parts_of, part_views, parts_of}
use Rattle.delivery_reads.proofs.PartLists.{onto_fields, onto_items}
use Rattle.delivery_reads.proofs.parts.+resolve.Given as goal

abbrev pub invariant-resolve_parts-loop-part : goal.invariant-resolve_parts-loop-part
invariant-resolve_parts-loop-part l = record {
  found : resolved_all (read_in l.parties l.promises) l.party (parts_of (part_views l.parts))
      ≡ onto_items (trees l.made.items) (resolved_all (read_in l.parties l.promises) l.party (parts_of (part_views (drop l.part-index l.parts))));
  paid : l.initial.left ≡ l.left + items_size (items_of (trees l.made.items));
}

abbrev pub invariant-resolve_fields-loop-name : goal.invariant-resolve_fields-loop-name
invariant-resolve_fields-loop-name l = record {
  found : resolved_fields (read_in l.parties l.promises) l.party (field_parts_of (named_views l.fields))
      ≡ onto_fields (named_trees l.made.items) (resolved_fields (read_in l.parties l.promises) l.party (field_parts_of (named_views (drop l.name-index l.fields))));
  paid : l.initial.left ≡ l.left + fields_size (fields_of (named_trees l.made.items));
}
