use Rattle.std.proofs.Common.{◌<◌, length, sym, ◌∙◌, ap, subst}
use Rattle.seats.proofs.Undone.{undo_put_undoes}
use Rattle.seats.proofs.Changed.{at_seat-back, at_seat-found}
use Rattle.seats.proofs.Listed.{listed-set}
use Rattle.seats.specs.Seats.{IsOpen, SeatView, with_less, with_more}
use Rattle.seats.specs.Store.{SeatsView, at_seat, seat_in}
use Rattle.seats.proofs.seats.Seats.undo_put.Goals as goal

pub invariant_of-self : goal.invariant_of-self
invariant_of-self c =
    let seats = c.self.inside.seats.items in
    let within : c.args.seat < length seats = subst (λ (s : SeatsView). c.args.seat < length s.seats) (sym c.self.view_is) c.requires.made in
    listed-set seats c.self.inside.by_instance c.self.inside.staging c.args.seat c.index_mut-seat.result.now c.undo_put.new.self within c.index_mut-seat.ensures.value
    (ap (λ (s : SeatView). s.instance) c.undo_put.ensures.less)
    (λ open_now. subst IsOpen (sym (c.undo_put.ensures.less)) open_now)
    c.self.invariant

pub returns-clause-undone : goal.returns-clause-undone
returns-clause-undone c = λ before left.
    let all : SeatsView = record { seats = c.self.inside.seats.items; staging = c.self.inside.staging } in
    let within : c.args.seat < length all.seats = subst (λ (s : SeatsView). c.args.seat < length s.seats) (sym c.self.view_is) c.requires.made in
    at_seat-found all c.args.self.now c.args.seat c.index_mut-seat.result.now c.undo_put.new.self (with_less c.args.keyword.now c.args.part.content) c.self.view_is within c.index_mut-seat.ensures.value c.undo_put.ensures.less
    ∙ ap (at_seat c.args.seat (with_less c.args.keyword.now c.args.part.content)) left.is
    ∙ at_seat-back c.args.seat (with_more c.args.keyword.now c.args.part.content) (with_less c.args.keyword.now c.args.part.content) before left.made (undo_put_undoes c.args.keyword.now c.args.part.content (seat_in c.args.seat before) left.there)
