use Rattle.std.proofs.Common.{ap}
use Rattle.seats.specs.Seats.{SeatView}
use Rattle.seats.proofs.Listed.{listed-close}
use Rattle.seats.proofs.seats.Seats.close.Goals as goal

pub invariant_of-self-2 : goal.invariant_of-self-2
invariant_of-self-2 c =
    listed-close c.self.inside.seats.items c.self.inside.by_instance c.self.inside.staging c.remove.new.self c.args.seat c.index_mut-closing.result.now c.close.new.self c.index_mut-closing.ensures.value
    (ap (λ (s : SeatView). s.instance) c.in_ok-last.ensures.ok) c.remove.ensures.looks c.self.invariant
