-- A change of one seat, and a change that takes it back.
use Rattle.std.proofs.Common.{◌≡◌, ℕ, ◌<◌, List, length, get_or, set, ◌∙◌, ap, subst}
use Rattle.std.proofs.lemmas.List.{get_or-set_same, get_or_default, set-get_or, set-set}
use Rattle.seats.specs.Seats.{SeatView}
use Rattle.seats.specs.Store.{SeatsView, at_seat, changed_at, no_seat, seat_at}

-- what the code changed is the change of the seat that it found
pub at_seat-found : (all old : SeatsView) (n : ℕ) (s t : SeatView) (change : SeatView → SeatView) → all ≡ old → n < length all.seats → s ≡ get_or all.seats n s → t ≡ change s → record all { seats = set all.seats n t } ≡ at_seat n change old
at_seat-found all old n s t change same made is new =
    subst (λ (o : SeatsView). record all { seats = set all.seats n t } ≡ at_seat n change o) same
    (ap (λ (b : SeatView). record all { seats = set all.seats n b }) (new ∙ ap change (is ∙ get_or_default all.seats n s no_seat made)))

pub changed_back : (n : ℕ) (f g : SeatView → SeatView) (seats : List SeatView) → n < length seats → g (f (seat_at seats n)) ≡ seat_at seats n → changed_at n g (changed_at n f seats) ≡ seats
changed_back n f g seats made back =
    let a = seat_at seats n in
    ap (λ (b : SeatView). set (set seats n (f a)) n (g b)) (get_or-set_same seats n (f a) no_seat made)
    ∙ set-set seats n (f a) (g (f a))
    ∙ ap (set seats n) back
    ∙ set-get_or seats n no_seat

pub at_seat-back : (n : ℕ) (f g : SeatView → SeatView) (all : SeatsView) → n < length all.seats → g (f (seat_at all.seats n)) ≡ seat_at all.seats n → at_seat n g (at_seat n f all) ≡ all
at_seat-back n f g all made back = ap (λ (xs : List SeatView). record all { seats = xs }) (changed_back n f g all.seats made back)
