use Rattle.std.proofs.Common.{take, map}
use Rattle.row_records.specs.Views.{payout_view}
use Rattle.told_seats.specs.SeatSteps.{AreNamed}
use Rattle.told_seats.specs.SlotViews.{slots_view}
use Rattle.told_seats.proofs.seats.are_named.Given as goal

abbrev pub invariant-loop-slot : goal.invariant-loop-slot
invariant-loop-slot l = AreNamed (map payout_view l.payouts) (slots_view (take l.slot-index l.slots))
