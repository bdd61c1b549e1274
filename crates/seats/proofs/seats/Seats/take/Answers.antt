use Rattle.std.proofs.Common.{◌<◌, length, sym, ap, subst}
use Rattle.seats.proofs.Listed.{listed-set, on_both}
use Rattle.seats.specs.Seats.{IsOpen, SeatView}
use Rattle.seats.specs.Store.{SeatsView}
use Rattle.seats.proofs.seats.Seats.take.Goals as goal

pub invariant_of-self : goal.invariant_of-self
invariant_of-self c =
    let seats = c.self.inside.seats.items in
    let within : c.args.seat < length seats = subst (λ (s : SeatsView). c.args.seat < length s.seats) (sym c.self.view_is) c.requires.made in
    listed-set seats c.self.inside.by_instance c.self.inside.staging c.args.seat c.index_mut-seat.result.now c.take.new.self within c.index_mut-seat.ensures.value
    (on_both c.take.result (ap (λ (s : SeatView). s.instance)) (ap (λ (s : SeatView). s.instance)) c.take.ensures.ok c.take.ensures.err)
    (λ open_now. on_both c.take.result (λ e. subst IsOpen (sym e) open_now) (λ e. subst IsOpen (sym e) open_now) c.take.ensures.ok c.take.ensures.err)
    c.self.invariant
