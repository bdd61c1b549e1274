use Rattle.std.proofs.Common.{◌≡◌, ◌++◌, List, map}
use Rattle.std.specs.List.{AllByRecursion}
use Rattle.serde_json.specs.View.{members_view}
use Rattle.serde_json.proofs.Views.{Entry}
use Rattle.row_records.specs.Views.{amount_view}
use Rattle.turn_rows.specs.Form.{HasAmountForm}
use Rattle.turn_rows.specs.Rows.{amounts_json}
use Rattle.row_reader.proofs.amounts.amounts_of.Given as goal

-- the amounts so far are in form and have the JSON so far
abbrev pub invariant-loop-keyword : goal.invariant-loop-keyword
invariant-loop-keyword l =
    (done : List Entry) × (l.members.entries ≡ done ++ l.keyword-iterator) × (amounts_json (map amount_view l.amounts.items) ≡ members_view done)
    × AllByRecursion (HasAmountForm l.edition) (map amount_view l.amounts.items)
