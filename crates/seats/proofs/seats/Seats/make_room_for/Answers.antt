use Rattle.std.proofs.Common.{◌<◌, length, sym, ap, subst}
use Rattle.seats.proofs.Listed.{listed-set}
use Rattle.seats.specs.Seats.{IsOpen, SeatView}
use Rattle.seats.specs.Store.{SeatsView}
use Rattle.seats.proofs.seats.Seats.make_room_for.Goals as goal

pub invariant_of-self : goal.invariant_of-self
invariant_of-self c =
    let seats = c.self.inside.seats.items in
    let within : c.args.seat < length seats = subst (λ (s : SeatsView). c.args.seat < length s.seats) (sym c.self.view_is) c.requires.made in
    listed-set seats c.self.inside.by_instance c.self.inside.staging c.args.seat c.index_mut-seat.result.now c.make_room_for.new.self within c.index_mut-seat.ensures.value
    (ap (λ (s : SeatView). s.instance) c.make_room_for.ensures.same)
    (λ open_now. subst IsOpen (sym (c.make_room_for.ensures.same)) open_now)
    c.self.invariant
