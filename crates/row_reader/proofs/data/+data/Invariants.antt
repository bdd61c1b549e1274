use Rattle.std.proofs.Common.{◌≡◌, ◌++◌, List, take}
use Rattle.serde_json.specs.View.{items_view, members_view}
use Rattle.turn_rows.specs.Form.{AreData, AreFields}
use Rattle.row_reader.proofs.DataForm.{Entry}
use Rattle.row_reader.proofs.data.+data.Given as goal

abbrev pub invariant-are_data-loop-item : goal.invariant-are_data-loop-item
invariant-are_data-loop-item l = AreData (items_view (take l.item-index l.items))

abbrev pub invariant-are_fields-loop-name : goal.invariant-are_fields-loop-name
invariant-are_fields-loop-name l = (done : List Entry) × (l.members.entries ≡ done ++ l.name-iterator) × AreFields (members_view done)
