use Rattle.std.proofs.Common.{◌≡◌, ◌++◌, List, map, take, Some}
use Rattle.serde_json.specs.View.{view}
use Rattle.message_lines.specs.Arguments.{part_in}
use Rattle.turn_records.specs.Views.{part_view}
use Rattle.message_lines.proofs.ReadParts.{Entry, entry_part, named_part}
use Rattle.message_lines.proofs.arguments.+read.Given as goal

abbrev pub invariant-read_items-loop-item : goal.invariant-read_items-loop-item
invariant-read_items-loop-item l = map (λ v. part_in (view v)) (take l.item-index l.item-items) ≡ map (λ p. Some (part_view p)) l.parts.items

abbrev pub invariant-read_fields-loop-name : goal.invariant-read_fields-loop-name
invariant-read_fields-loop-name l = (done : List Entry) × (l.members.entries ≡ done ++ l.name-iterator) × (map entry_part done ≡ map named_part l.fields.items)
