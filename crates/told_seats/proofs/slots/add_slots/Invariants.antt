use Rattle.std.proofs.Common.{◌≡◌, drop, map}
use Rattle.row_records.specs.Views.{amount_view}
use Rattle.row_records.specs.fair_rows.Seats.{with_amounts}
use Rattle.told_seats.specs.SlotViews.{slots_view}
use Rattle.told_seats.proofs.slots.add_slots.Given as goal

abbrev pub invariant-loop-amount : goal.invariant-loop-amount
invariant-loop-amount l = with_amounts (map amount_view (drop l.amount-index l.amounts)) (slots_view l.slots.items) ≡ with_amounts (map amount_view l.amounts) (slots_view l.initial.slots.items)
