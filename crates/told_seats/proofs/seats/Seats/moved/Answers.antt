use Rattle.std.proofs.Common.{refl, ◌∙◌}
use Rattle.std.proofs.lemmas.Result.{on_ok_weaker}
use Rattle.row_records.specs.Views.{move_view}
use Rattle.told_seats.proofs.ToldSeats.{causes_named, moved_on}
use Rattle.told_seats.proofs.seats.Seats.moved.Goals as goal

pub returns-clause-told : goal.returns-clause-told
returns-clause-told c =
    on_ok_weaker c.name-2.result
    (λ to i t.
    moved_on c.args.self.now (record c.args.self.now { due = c.pop_front.new.self }) c.name.new.self c.name-2.new.self (move_view c.args.row.now)
    (record { due = c.pop_front.ensures.rest; same = refl; touched = λ n. refl; offer = refl }) c.in_ok-name.ensures to i t)
    c.name-2.ensures

pub returns-clause-causes : goal.returns-clause-causes
returns-clause-causes c =
    let first = c.in_ok-name.ensures in
    on_ok_weaker c.name-2.result
    (λ to.
    causes_named c.args.row.now.to c.args.row.now.brand c.name.new.self.seats.items c.name-2.new.self.seats.items to.seats
    ∙ causes_named c.args.row.now.from c.args.row.now.brand c.args.self.now.seats.items c.name.new.self.seats.items first.seats)
    c.name-2.ensures
