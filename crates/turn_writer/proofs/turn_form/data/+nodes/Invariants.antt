use Rattle.std.proofs.Common.{take}
use Rattle.std.specs.List.{All}
use Rattle.turn_records.specs.host_data.View.{named, tree}
use Rattle.turn_writer.specs.Typed.{HasDataTypes, HasFieldTypes}
use Rattle.turn_writer.proofs.turn_form.data.+nodes.Given as goal

abbrev pub invariant-fields_have_types-loop-value : goal.invariant-fields_have_types-loop-value
invariant-fields_have_types-loop-value l = All (λ f. HasFieldTypes (named f)) (take l.value-index l.fields)

abbrev pub invariant-items_have_types-loop-item : goal.invariant-items_have_types-loop-item
invariant-items_have_types-loop-item l = All (λ d. HasDataTypes (tree d)) (take l.item-index l.items)
