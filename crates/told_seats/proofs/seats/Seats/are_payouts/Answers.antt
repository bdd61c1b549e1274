use Rattle.row_records.specs.Views.{exit_view}
use Rattle.told_seats.proofs.SeatTests.{both_ways, left_open, open_kept, paid_same, payouts_kept}
use Rattle.told_seats.proofs.seats.Seats.are_payouts.Goals as goal

pub returns-in-Open : goal.returns-in-Open
returns-in-Open c = λ i t r.
    both_ways
    (paid_same i.now.moves c.as_slice-in-Open.result.now c.args.row.now.payouts.items c.as_slice.result.now c.in-Some.seat.now.slots.items c.are_paid.result c.as_slice-in-Open.ensures.value c.as_slice.ensures.value (c.are_paid.ensures i r))
    (payouts_kept i (exit_view c.args.row.now) (open_kept c.args.self.now.seats.items i.now.seats c.args.row.now.seat t c.in-Some.ensures c.in-Open.is))

pub returns-in-Exited : goal.returns-in-Exited
returns-in-Exited c = λ i t r. (λ h. absurd (cc), λ has. absurd (left_open c.args.self.now.seats.items i.now.seats c.args.row.now.seat t c.in-Some.ensures c.in-Exited.is has.is_open))
