use Rattle.std.proofs.Common.{◌<◌, length, sym, ap, subst}
use Rattle.seats.proofs.Listed.{listed-set, on_both}
use Rattle.seats.specs.Seats.{IsOpen, SeatView}
use Rattle.seats.specs.Store.{SeatsView}
use Rattle.seats.proofs.seats.Seats.put.Goals as goal

pub invariant_of-self : goal.invariant_of-self
invariant_of-self c =
    let seats = c.self.inside.seats.items in
    let within : c.args.seat < length seats = subst (λ (s : SeatsView). c.args.seat < length s.seats) (sym c.self.view_is) c.requires.made in
    listed-set seats c.self.inside.by_instance c.self.inside.staging c.args.seat c.index_mut-seat.result.now c.put.new.self within c.index_mut-seat.ensures.value
    (on_both c.put.result (ap (λ (s : SeatView). s.instance)) (ap (λ (s : SeatView). s.instance)) c.put.ensures.ok c.put.ensures.err)
    (λ open_now. on_both c.put.result (λ e. subst IsOpen (sym e) open_now) (λ e. subst IsOpen (sym e) open_now) c.put.ensures.ok c.put.ensures.err)
    c.self.invariant
