use Rattle.std.proofs.Common.{◌≡◌, ◌++◌, List, map}
use Rattle.std.specs.List.{AllByRecursion}
use Rattle.serde_json.specs.View.{members_view}
use Rattle.serde_json.proofs.Views.{Entry}
use Rattle.row_records.specs.Views.{payout_view}
use Rattle.turn_rows.specs.Rows.{payouts_json}
use Rattle.row_reader.specs.Amounts.{HasPayoutForm}
use Rattle.row_reader.proofs.amounts.payouts_of.Given as goal

-- the payouts so far are in form and have the JSON so far
abbrev pub invariant-loop-keyword : goal.invariant-loop-keyword
invariant-loop-keyword l =
    (done : List Entry) × (l.members.entries ≡ done ++ l.keyword-iterator) × (payouts_json (map payout_view l.payouts.items) ≡ members_view done)
    × AllByRecursion HasPayoutForm (map payout_view l.payouts.items)
