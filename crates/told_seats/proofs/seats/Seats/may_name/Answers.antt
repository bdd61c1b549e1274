use Rattle.told_seats.proofs.SeatTests.{name_tested}
use Rattle.told_seats.proofs.seats.Seats.may_name.Goals as goal

pub returns-in-Slot : goal.returns-in-Slot
returns-in-Slot c = λ seats t. name_tested seats c.args.brand c.is_open_slot.result c.args.holder.now (c.is_open_slot.ensures seats t) c.in-Slot.is
