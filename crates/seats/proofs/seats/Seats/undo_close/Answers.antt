use Rattle.std.proofs.Common.{◌<◌, length, refl, sym, ◌∙◌, ap, subst}
use Rattle.seats.proofs.Undone.{undo_close_undoes}
use Rattle.seats.proofs.Changed.{at_seat-found, changed_back}
use Rattle.seats.proofs.Listed.{listed-set}
use Rattle.seats.specs.Seats.{IsOpen, SeatView, closed_seat, reopened_seat}
use Rattle.seats.specs.Store.{SeatsView, changed_at, seat_in}
use Rattle.seats.proofs.seats.Seats.undo_close.Goals as goal

pub invariant_of-self : goal.invariant_of-self
invariant_of-self c =
    let seats = c.self.inside.seats.items in
    let within : c.args.seat < length seats = subst (λ (s : SeatsView). c.args.seat < length s.seats) (sym c.self.view_is) c.requires.made in
    listed-set seats c.self.inside.by_instance c.self.inside.staging c.args.seat c.index_mut-seat.result.now c.undo_close.new.self within c.index_mut-seat.ensures.value
    (ap (λ (s : SeatView). s.instance) c.undo_close.ensures)
    (λ open_now. subst IsOpen (sym c.undo_close.ensures) refl)
    c.self.invariant

pub returns-clause-undone : goal.returns-clause-undone
returns-clause-undone c = λ before left.
    let all : SeatsView = record { seats = c.self.inside.seats.items; staging = c.self.inside.staging } in
    let within : c.args.seat < length all.seats = subst (λ (s : SeatsView). c.args.seat < length s.seats) (sym c.self.view_is) c.requires.made in
    ap (λ (s : SeatsView). s.seats) (at_seat-found all c.args.self.now c.args.seat c.index_mut-seat.result.now c.undo_close.new.self reopened_seat c.self.view_is within c.index_mut-seat.ensures.value c.undo_close.ensures)
    ∙ ap (changed_at c.args.seat reopened_seat) left.is
    ∙ changed_back c.args.seat closed_seat reopened_seat before.seats left.made (undo_close_undoes (seat_in c.args.seat before) left.was_open)
