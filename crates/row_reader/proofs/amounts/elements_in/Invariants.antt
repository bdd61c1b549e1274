use Rattle.std.proofs.Common.{◌≡◌, map, take}
use Rattle.std.specs.List.{AllByRecursion}
use Rattle.serde_json.specs.View.{view}
use Rattle.row_records.specs.Views.{element_view}
use Rattle.turn_rows.specs.Form.{HasElementForm}
use Rattle.row_reader.specs.Amounts.{elements_list}
use Rattle.row_reader.proofs.amounts.elements_in.Given as goal

-- the elements so far are in form and have the JSON so far
abbrev pub invariant-loop-item : goal.invariant-loop-item
invariant-loop-item l =
    (elements_list (map element_view l.elements.items) ≡ map view (take l.item-index l.items)) × AllByRecursion HasElementForm (map element_view l.elements.items)
