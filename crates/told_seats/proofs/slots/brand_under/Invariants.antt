use Rattle.std.proofs.Common.{◌≡◌, drop}
use Rattle.row_records.specs.fair_rows.Seats.{brand_under}
use Rattle.told_seats.specs.SlotViews.{slots_view}
use Rattle.told_seats.proofs.slots.brand_under.Given as goal

abbrev pub invariant-loop-slot : goal.invariant-loop-slot
invariant-loop-slot l = brand_under l.keyword (slots_view (drop l.slot-index l.slots)) ≡ brand_under l.keyword (slots_view l.slots)
