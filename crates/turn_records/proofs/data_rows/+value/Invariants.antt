use Rattle.std.proofs.Common.{◌≡◌, map, take}
use Rattle.serde_json.specs.Data.{no_members}
use Rattle.serde_json.specs.View.{view, members_view}
use Rattle.refusals.specs.host_data.View.{tree, named_trees, fields_of}
use Rattle.turn_records.specs.PrintedData.{printed, printed_fields}
use Rattle.turn_records.proofs.data_rows.+value.Given as goal

abbrev pub invariant-fields_value-loop-name : goal.invariant-fields_value-loop-name
invariant-fields_value-loop-name l = members_view l.values.entries ≡ printed_fields (fields_of (named_trees (take l.name-index l.fields))) no_members

abbrev pub invariant-items_value-loop-item : goal.invariant-items_value-loop-item
invariant-items_value-loop-item l = map view l.values.items ≡ map (λ d. printed (tree d)) (take l.item-index l.items)
