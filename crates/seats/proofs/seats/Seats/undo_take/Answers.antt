use Rattle.std.proofs.Common.{◌<◌, length, sym, ◌∙◌, ap, subst}
use Rattle.seats.proofs.Undone.{undo_take_undoes}
use Rattle.seats.proofs.Changed.{at_seat-back, at_seat-found}
use Rattle.seats.proofs.Listed.{listed-set}
use Rattle.seats.specs.Seats.{IsOpen, SeatView, with_less, with_more}
use Rattle.seats.specs.Store.{SeatsView, at_seat, seat_in}
use Rattle.seats.proofs.seats.Seats.undo_take.Goals as goal

pub invariant_of-self : goal.invariant_of-self
invariant_of-self c =
    let seats = c.self.inside.seats.items in
    let within : c.args.seat < length seats = subst (λ (s : SeatsView). c.args.seat < length s.seats) (sym c.self.view_is) c.requires.made in
    listed-set seats c.self.inside.by_instance c.self.inside.staging c.args.seat c.index_mut-seat.result.now c.undo_take.new.self within c.index_mut-seat.ensures.value
    (ap (λ (s : SeatView). s.instance) c.undo_take.ensures)
    (λ open_now. subst IsOpen (sym (c.undo_take.ensures)) open_now)
    c.self.invariant

pub returns-clause-undone : goal.returns-clause-undone
returns-clause-undone c = λ before left.
    let all : SeatsView = record { seats = c.self.inside.seats.items; staging = c.self.inside.staging } in
    let within : c.args.seat < length all.seats = subst (λ (s : SeatsView). c.args.seat < length s.seats) (sym c.self.view_is) c.requires.made in
    at_seat-found all c.args.self.now c.args.seat c.index_mut-seat.result.now c.undo_take.new.self (with_more c.args.keyword.now c.args.parcel.value.content) c.self.view_is within c.index_mut-seat.ensures.value c.undo_take.ensures
    ∙ ap (at_seat c.args.seat (with_more c.args.keyword.now c.args.parcel.value.content)) left.is
    ∙ at_seat-back c.args.seat (with_less c.args.keyword.now c.args.parcel.value.content) (with_more c.args.keyword.now c.args.parcel.value.content) before left.made (undo_take_undoes c.args.keyword.now c.args.parcel.value.content (seat_in c.args.seat before) left.there left.has)
