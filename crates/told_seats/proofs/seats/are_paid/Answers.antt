use Rattle.std.proofs.Common.{◌≡◌, length, arith, refl}
use Rattle.told_seats.proofs.SeatTests.{paid_is}
use Rattle.told_seats.proofs.seats.are_paid.Goals as goal

pub returns : goal.returns
returns c = λ i r.
    let as_many : length c.args.payouts.now ≡ length c.args.slots.now = omega arith in
    paid_is i.now.moves c.args.payouts.now c.args.slots.now as_many (c.if-not-are_named.ensures.0 refl) c.are_new.result (c.are_new.ensures i r)
