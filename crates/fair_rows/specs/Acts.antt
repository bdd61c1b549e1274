-- What a host does in a turn, act by act, in terms of its own world, and the laws that the rows of its acts are in place.
use Rattle.std.specs.Prelude.{◌≡◌, ◌≤◌, ℕ, ◌+◌, ◌==◌, true, false, List, [], ◌∷◌, ◌++◌, Some, length, map}
use Rattle.std.specs.List.{AllByRecursion, flat_map}
use Rattle.turn_rows.specs.amount_math.ValueView.{IsValue}
use Rattle.turn_rows.specs.amount_math.declared.Kind.{Kind}
use Rattle.turn_rows.specs.rights_model.Table.{Table, holds, moved as table_moved, table_after}
use Rattle.turn_rows.specs.rights_model.declared.Holder.TheVariants.{Payment, Slot}
use Rattle.turn_rows.specs.Turns.{Call, Event, called, exited, KeywordAmount, moved, Move, opened, Opening, Payout, SeatExit, settled, Settlement, Turn}
use Rattle.fair_rows.specs.Amounts.{IsReadByCall}
use Rattle.fair_rows.specs.ExitCauses.{Owners, first_cause}
use Rattle.fair_rows.specs.Movements.{movement_of, movements_in, names}
use Rattle.fair_rows.specs.Rows.{FollowsKit, InTurn, IsBurn, IsEscrow, NamesOpenSlots, is_offer, payment_under}
use Rattle.fair_rows.specs.Seats.{IsOpen, IsSafe, Seat, SlotName, brand_under, new_seat, with_exit, with_move}
use Rattle.fair_rows.specs.Strict.{AreShownByCalls, IsEmptySeat, IsToldByCall}
use Rattle.fair_rows.specs.Steps.{AreInPlace, ShowsRows, World}
use Rattle.fair_rows.specs.Turns.{after_events}
use Rattle.fair_rows.specs.Values.{value_of}

-- ---- what lies between acts

pub record Place : Type 0 where
  pub table : Table
  pub seats : List Seat
  -- how many payments were made
  pub payments : ℕ

abbrev pub place_in : World → Place
place_in w = record { table = w.table; seats = w.seats; payments = w.payments }

-- the turn, as far as it was read, is at the place, and nothing is due
pub record IsAt (owners : Owners) (t : Turn) (es : List Event) (w : Place) (i : InTurn) : Type 0 where
  pub of : i.before.owners ≡ owners
  pub row : i.row ≡ t
  pub here : i.here ≡ es
  pub due : i.due ≡ []
  pub table : i.now.table ≡ w.table
  pub seats : i.now.seats ≡ w.seats
  pub made : (p : ℕ) → w.payments ≤ p → names p i.now.moves ≡ false

-- the rows of an act are in place wherever the turn is at the place, and then it is at the next
abbrev pub IsAct : Owners → Turn → List Event → Place → List Event → Place → Type 0
IsAct owners t here w es next = (i : InTurn) → IsAt owners t here w i → AreInPlace i es × IsAt owners t (here ++ es) next (after_events i es)

-- an act's rows, and the place that it leads to
pub record Act : Type 0 where
  pub rows : List Event
  pub next : Place

abbrev pub AreActs : Owners → Turn → List Event → Place → List Act → Type 0
AreActs owners t here w [] = Unit {0}
AreActs owners t here w (a ∷ acts) = IsAct owners t here w a.rows a.next × AreActs owners t (here ++ a.rows) a.next acts

abbrev pub rows_of_acts : List Act → List Event
rows_of_acts acts = flat_map (λ (a : Act). a.rows) acts

abbrev pub place_after : Place → List Act → Place
place_after w [] = w
place_after w (a ∷ acts) = place_after a.next acts

-- acts one after another show what a step has to show of its rows
abbrev pub ActsShowRows : Type 0
ActsShowRows =
    (w next : World) (t : Turn) (acts : List Act)
    → AreActs w.owners t [] (place_in w) acts
    → t.events ≡ rows_of_acts acts
    → next.seats ≡ (place_after (place_in w) acts).seats
    → ShowsRows w t next

-- ---- a seat exits

-- a slot goes whole to a payment
abbrev pub payout_move : (ℕ → Kind) → Table → ℕ → ℕ → SlotName → Move
payout_move kind_of t seat p s = record { brand = s.brand; from = Slot seat s.keyword; to = Payment p; value = value_of (kind_of s.brand) (holds t (Slot seat s.keyword) s.brand) }

-- each to one of its own, numbered from the next
abbrev pub payout_moves : (ℕ → Kind) → Table → ℕ → ℕ → List SlotName → List Move
payout_moves kind_of t seat p [] = []
payout_moves kind_of t seat p (s ∷ ss) = payout_move kind_of t seat p s ∷ payout_moves kind_of t seat (p + 1) ss

-- the exit row names them
abbrev pub AreNamed : List Payout → ℕ → List SlotName → Type 0
AreNamed payouts p [] = Unit {0}
AreNamed payouts p (s ∷ ss) = (payment_under s.keyword payouts ≡ Some p) × AreNamed payouts (p + 1) ss

abbrev pub exit_rows : (ℕ → Kind) → Place → Seat → SeatExit → List Event
exit_rows kind_of w seat x = exited x ∷ map moved (payout_moves kind_of w.table x.seat w.payments seat.slots)

abbrev pub after_exit : (ℕ → Kind) → Place → Seat → SeatExit → Place
after_exit kind_of w seat x = record {
  table = table_after w.table (movements_in (exit_rows kind_of w seat x));
  seats = map (with_exit w.table x.seat) w.seats;
  payments = w.payments + length seat.slots;
}

-- an open seat exits for its first cause; it is covered, and the table has values of their kinds in its slots
pub record CanExit (kind_of : ℕ → Kind) (owners : Owners) (t : Turn) (here : List Event) (w : Place) (x : SeatExit) : Type 0 where
  pub is_open : IsOpen w.seats x.seat
  pub alone : AllByRecursion (λ s. (x.seat == s.opening.seat) ≡ true → s ≡ is_open.seat) w.seats
  pub cause : first_cause owners t here is_open.seat.opening.instance x.seat ≡ Some x.cause
  pub safe : IsSafe w.table is_open.seat.opening
  pub values : AllByRecursion (λ s. IsValue (kind_of s.brand) (holds w.table (Slot x.seat s.keyword) s.brand)) is_open.seat.slots
  pub as_many : length x.payouts ≡ length is_open.seat.slots
  pub named : AreNamed x.payouts w.payments is_open.seat.slots
  pub fresh : AllByRecursion (λ (p : Payout). w.payments ≤ p.payment) x.payouts

abbrev pub ExitIsAct : Type 0
ExitIsAct =
    (kind_of : ℕ → Kind) (owners : Owners) (t : Turn) (here : List Event) (w : Place) (x : SeatExit)
    → (can : CanExit kind_of owners t here w x)
    → IsAct owners t here w (exit_rows kind_of w can.is_open.seat x) (after_exit kind_of w can.is_open.seat x)

-- ---- an offer opens a seat

-- just what is given is escrowed, in the order of slots
abbrev pub AreEscrows : ℕ → List KeywordAmount → List Move → Type 0
AreEscrows seat [] [] = Unit {0}
AreEscrows seat (a ∷ amounts) (m ∷ ms) = IsEscrow seat a m × AreEscrows seat amounts ms
AreEscrows seat _ _ = ⊥

abbrev pub offer_rows : Opening → Move → List Move → List Event
offer_rows o burn escrows = opened o ∷ moved burn ∷ map moved escrows

-- the next seat is opened; each of its slots is of one brand; no seat has its number yet
pub record IsNext (w : Place) (o : Opening) : Type 0 where
  pub next : o.seat ≡ length w.seats
  pub of_brand : AllByRecursion (λ a. brand_under a.keyword (new_seat o).slots ≡ Some a.brand) (o.give ++ o.want)
  pub alone : AllByRecursion (λ (s : Seat). (o.seat == s.opening.seat) ≡ false) w.seats

-- by an offer that is answered, and not behind a kit's call; its movements name no payment past those made
pub record CanOffer (t : Turn) (here : List Event) (w : Place) (o : Opening) (burn : Move) (escrows : List Move) : Type 0 where
  pub opens : IsNext w o
  pub offers : is_offer t ≡ true
  pub no_kit : FollowsKit here → ⊥
  pub burns : IsBurn burn
  pub escrowed : AreEscrows o.seat o.give escrows
  pub made : (p : ℕ) → w.payments ≤ p → names p (movements_in (offer_rows o burn escrows)) ≡ false

abbrev pub after_offer : Place → Opening → Move → List Move → Place
after_offer w o burn escrows = record {
  table = table_after w.table (movements_in (offer_rows o burn escrows));
  seats = w.seats ++ new_seat o ∷ [];
  payments = w.payments;
}

abbrev pub OfferIsAct : Type 0
OfferIsAct =
    (owners : Owners) (t : Turn) (here : List Event) (w : Place) (o : Opening) (burn : Move) (escrows : List Move)
    → CanOffer t here w o burn escrows
    → IsAct owners t here w (offer_rows o burn escrows) (after_offer w o burn escrows)

-- ---- acts of one row

-- a movement, after which so many payments are made
abbrev pub after_move : Place → Move → ℕ → Place
after_move w m payments = record { table = table_moved w.table (movement_of m); seats = map (with_move m) w.seats; payments = payments }

pub record CanMoveHere (w : Place) (m : Move) (payments : ℕ) : Type 0 where
  pub slots : NamesOpenSlots w.seats m
  pub more : w.payments ≤ payments
  pub made : (p : ℕ) → payments ≤ p → names p (movement_of m ∷ []) ≡ false

-- an empty seat, right after the call row that makes it, in a turn that is no offer
abbrev pub after_empty : Place → Opening → Place
after_empty w o = record w { seats = w.seats ++ new_seat o ∷ [] }

pub record CanOpenEmpty (t : Turn) (here : List Event) (w : Place) (o : Opening) : Type 0 where
  pub opens : IsNext w o
  pub runs : is_offer t ≡ false
  pub empty : IsEmptySeat here o

-- what a call answers is what there is, and is told whole; seats that have exited did so for calls
pub record IsAnsweredCall (here : List Event) (w : Place) (c : Call) : Type 0 where
  pub read : IsReadByCall w.table c
  pub told : IsToldByCall w.table w.seats c
  pub shown : AreShownByCalls w.seats here

pub record SinglesAreActs (owners : Owners) (t : Turn) (here : List Event) (w : Place) : Type 0 where
  pub move : (m : Move) (payments : ℕ) → CanMoveHere w m payments → IsAct owners t here w (moved m ∷ []) (after_move w m payments)
  pub empty_seat : (o : Opening) → CanOpenEmpty t here w o → IsAct owners t here w (opened o ∷ []) (after_empty w o)
  pub call : (c : Call) → IsAnsweredCall here w c → IsAct owners t here w (called c ∷ []) w
  pub settlement : (promise : ℕ) (result : Settlement) → IsAct owners t here w (settled promise result ∷ []) w
