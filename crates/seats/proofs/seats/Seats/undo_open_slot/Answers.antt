use Rattle.std.proofs.Common.{◌<◌, length, sym, ◌∙◌, ap, subst}
use Rattle.seats.proofs.Undone.{undo_open_slot_undoes}
use Rattle.seats.proofs.Changed.{at_seat-back, at_seat-found}
use Rattle.seats.proofs.Listed.{listed-set}
use Rattle.seats.specs.Seats.{IsOpen, SeatView, with_further, without_last_slot}
use Rattle.seats.specs.Store.{SeatsView, at_seat, seat_in}
use Rattle.seats.proofs.seats.Seats.undo_open_slot.Goals as goal

pub invariant_of-self : goal.invariant_of-self
invariant_of-self c =
    let seats = c.self.inside.seats.items in
    let within : c.args.seat < length seats = subst (λ (s : SeatsView). c.args.seat < length s.seats) (sym c.self.view_is) c.requires.made in
    listed-set seats c.self.inside.by_instance c.self.inside.staging c.args.seat c.index_mut-seat.result.now c.undo_open_slot.new.self within c.index_mut-seat.ensures.value
    (ap (λ (s : SeatView). s.instance) c.undo_open_slot.ensures)
    (λ open_now. subst IsOpen (sym (c.undo_open_slot.ensures)) open_now)
    c.self.invariant

pub returns-clause-undone : goal.returns-clause-undone
returns-clause-undone c = λ keyword amount before left.
    let all : SeatsView = record { seats = c.self.inside.seats.items; staging = c.self.inside.staging } in
    let within : c.args.seat < length all.seats = subst (λ (s : SeatsView). c.args.seat < length s.seats) (sym c.self.view_is) c.requires.made in
    at_seat-found all c.args.self.now c.args.seat c.index_mut-seat.result.now c.undo_open_slot.new.self (without_last_slot) c.self.view_is within c.index_mut-seat.ensures.value c.undo_open_slot.ensures
    ∙ ap (at_seat c.args.seat without_last_slot) left.is
    ∙ at_seat-back c.args.seat (with_further keyword amount) without_last_slot before left.made (undo_open_slot_undoes keyword amount (seat_in c.args.seat before))
