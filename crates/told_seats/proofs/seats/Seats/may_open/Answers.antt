use Rattle.std.proofs.Common.{◌≡◌, length, arith}
use Rattle.told_seats.proofs.SeatTests.{none_of, open_by_offer}
use Rattle.told_seats.proofs.seats.Seats.may_open.Goals as goal

pub returns-else-follows : goal.returns-else-follows
returns-else-follows c = λ e form i t behind.
    let next : c.args.row.now.seat ≡ length c.args.self.now.seats.items = omega arith in
    open_by_offer c.args.self.now i e c.args.row.now c.args.follows form t behind c.if-follows.false (none_of i.due (c.if-is_due.ensures i t)) next
