use Rattle.std.proofs.Common.{◌≡◌, ℕ, ◌<◌, ◌==◌, List, [], ◌∷◌, ◌++◌, length, sym, ◌∙◌, ap, subst}
use Rattle.ertp_mint.specs.Stocks.{most_made}
use Rattle.seats.specs.Seats.{SeatView, new_seat}
use Rattle.seats.proofs.Listed.{listed-push, listed-same, ok_of, pushed_off}
use Rattle.seats.specs.Instances.{list_at}
use Rattle.seats.specs.Store.{AreListed, SeatsView}
use Rattle.seats.proofs.seats.Seats.add.Goals as goal

pub invariant_of-self-in-Ok : goal.invariant_of-self-in-Ok
invariant_of-self-in-Ok c =
    let seats = c.self.inside.seats.items in
    let new = new_seat c.args.instance c.args.proposal in
    let number : c.args.number ≡ length seats = c.requires.number ∙ ap (λ (s : SeatsView). length s.seats) (sym c.self.view_is) in
    let room : length seats < most_made = subst (λ (s : SeatsView). length s.seats < most_made) (sym c.self.view_is) c.requires.room in
    let items : c.push_reserved.new.self.items ≡ seats ++ new ∷ [] =
    c.push_reserved.ensures.items
    ∙ ap (λ (xs : List SeatView). xs ++ c.in-Ok.seat ∷ []) c.reserve.ensures.items
    ∙ ap (λ (s : SeatView). seats ++ s ∷ []) c.in-Ok.ensures.ok in
    subst (λ (xs : List SeatView). AreListed xs c.push.new.self c.self.inside.staging) (sym items)
    (listed-push seats c.self.inside.by_instance c.push.new.self c.self.inside.staging c.args.number new number room (ok_of c.push.result c.if-is_err-2.ensures.value c.push.ensures.ok) c.self.invariant)

pub invariant_of-self-in-Err : goal.invariant_of-self-in-Err
invariant_of-self-in-Err c =
    let lists = c.self.inside.by_instance in
    let looks = ok_of c.push.result c.if-is_err-2.ensures.value c.push.ensures.ok in
    let same : (i : ℕ) → list_at c.pop.new.self i ≡ list_at lists i = λ i. pushed_off (i == c.args.instance) (list_at lists i) (list_at c.push.new.self i) (list_at c.pop.new.self i) c.args.number (looks i) (c.pop.ensures i) in
    subst (λ (xs : List SeatView). AreListed xs c.pop.new.self c.self.inside.staging) (sym c.reserve.ensures.items) (listed-same c.self.inside.seats.items lists c.pop.new.self c.self.inside.staging same c.self.invariant)
