use Rattle.std.proofs.Common.{◌≡◌, ℕ, ◌+◌, ◌-◌, ◌<◌, List, length, take, sym, ◌∙◌, ap, subst, arith}
use Rattle.std.proofs.lemmas.List.{get_or_default}
use Rattle.seats.proofs.Undone.{last_off}
use Rattle.seats.specs.Seats.{SeatView, new_seat}
use Rattle.seats.proofs.Listed.{listed-pop}
use Rattle.seats.specs.Store.{AreListed, SeatsView, no_seat, seat_at}
use Rattle.seats.proofs.seats.Seats.undo_open.Goals as goal

pub invariant_of-self : goal.invariant_of-self
invariant_of-self c =
    let seats = c.self.inside.seats.items in
    let n = c.made-number.result - 1 in
    let some : 0 < length seats = subst (λ (s : SeatsView). 0 < length s.seats) (sym c.self.view_is) c.requires.made in
    let made : c.made-number.result ≡ length seats = c.made-number.ensures.made ∙ ap (λ (s : SeatsView). length s.seats) (sym c.self.view_is) in
    let last : n + 1 ≡ length seats = omega (arith, made, some) in
    let owner : c.instance-owner.result ≡ (seat_at seats n).instance = c.instance-owner.ensures ∙ ap (λ (s : SeatView). s.instance) (c.index.ensures ∙ get_or_default seats n c.index.result.now no_seat (omega (arith, last))) in
    subst (λ (xs : List SeatView). AreListed xs c.pop.new.self c.remove.new.self) (sym c.truncate.ensures.items)
    (listed-pop seats c.self.inside.by_instance c.pop.new.self c.self.inside.staging c.remove.new.self n c.instance-owner.result last owner c.pop.ensures c.remove.ensures.looks c.self.invariant)

pub returns-clause-undone : goal.returns-clause-undone
returns-clause-undone c = λ instance proposal before left.
    let seats = c.self.inside.seats.items in
    let made : c.made-number.result ≡ length seats = c.made-number.ensures.made ∙ ap (λ (s : SeatsView). length s.seats) (sym c.self.view_is) in
    c.truncate.ensures.items
    ∙ ap (λ (n : ℕ). take (n - 1) seats) made
    ∙ ap (λ (s : SeatsView). take (length s.seats - 1) s.seats) c.self.view_is
    ∙ ap (λ (xs : List SeatView). take (length xs - 1) xs) left.is
    ∙ last_off before.seats (new_seat instance proposal)
