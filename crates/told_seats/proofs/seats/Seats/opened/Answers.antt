use Rattle.std.proofs.Common.{refl, arith}
use Rattle.std.proofs.lemmas.Grind.{common_steps}
use Rattle.std.proofs.lemmas.Result.{on_ok_weaker}
use Rattle.told_seats.proofs.ToldSeats.{opened_on, opens_from}
use Rattle.told_seats.proofs.seats.Seats.opened.Goals as goal

pub returns-clause-told : goal.returns-clause-told
returns-clause-told c =
    on_ok_weaker c.add.result
    (λ adds e form i t place.
    opened_on c.args.row e c.args.self.now c.add.new.self i
    (opens_from c.args.row c.args.self.now c.expect.new.self (record c.expect.new.self { touched = c.insert.new.self }) c.add.new.self c.in_ok-expect.ensures refl (λ n. grind (arith, common_steps, c.in_ok-insert.ensures.updates.0 n)) adds) form t place)
    c.add.ensures
