use Rattle.row_records.specs.Views.{move_view}
use Rattle.told_seats.proofs.SeatTests.{both_ways, next_in_place}
use Rattle.told_seats.proofs.seats.Seats.may_move.Goals as goal

pub returns-in-Some : goal.returns-in-Some
returns-in-Some c = λ e form i t r. both_ways (c.is_due_move.ensures e form.3 i r) (next_in_place c.args.self.now i c.in-Some.due.now (move_view c.args.row.now) t c.in-Some.ensures)
