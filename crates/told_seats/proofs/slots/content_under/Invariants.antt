use Rattle.std.proofs.Common.{◌≡◌, drop}
use Rattle.row_records.specs.fair_rows.Amounts.{content_under}
use Rattle.told_seats.specs.SlotViews.{slots_view}
use Rattle.told_seats.proofs.slots.content_under.Given as goal

abbrev pub invariant-loop-i : goal.invariant-loop-i
invariant-loop-i l = content_under l.keyword l.brand (slots_view (drop l.i l.slots)) (drop l.i l.contents) ≡ content_under l.keyword l.brand (slots_view l.slots) l.contents
