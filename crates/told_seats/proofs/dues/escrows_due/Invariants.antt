use Rattle.std.proofs.Common.{◌≡◌, ◌∷◌, take, map}
use Rattle.row_records.specs.Views.{amount_view}
use Rattle.row_records.specs.fair_rows.Rows.{burn, escrow}
use Rattle.told_seats.specs.DueViews.{dues_view}
use Rattle.told_seats.proofs.dues.escrows_due.Given as goal

abbrev pub invariant-loop-amount : goal.invariant-loop-amount
invariant-loop-amount l = dues_view l.dues.items ≡ burn ∷ map (escrow l.seat) (map amount_view (take l.amount-index l.give))
