-- When a row of a turn is fair after the rows before it. Each row is judged by what those tell, so a reader of a
-- journal can name the first row that isn't.
use Rattle.std.specs.Prelude.{◌≡◌, ℕ, List, [], ◌∷◌, ◌++◌, Option, Some, None, is_some, ◌⊎◌, ◌≤◌, codes, false, length, map, if◌then◌else◌, ◌&&◌, Bool, true, unwrap_or, option_map}
use Rattle.std.specs.List.{AllByRecursion, slice_get}
use Rattle.std.specs.Str.{bytes_eq}
use Rattle.turn_rows.specs.amount_math.Content.{Content, one_of}
use Rattle.turn_rows.specs.amount_math.ValueView.{minted_bound}
use Rattle.turn_rows.specs.rights_model.Table.{CanMove, Table, holds}
use Rattle.turn_rows.specs.rights_model.declared.Holder.TheVariants.{Outside, Payment, Slot}
use Rattle.turn_rows.specs.rights_model.declared.Movement.{Movement}
use Rattle.serde_json.specs.Data.{Items}
use Rattle.turn_rows.specs.Kinds as kinds
use Rattle.turn_rows.specs.Kinds.{Kind}
use Rattle.turn_rows.specs.Turns.{Call, Event, called, exited, moved, opened, refused, settled, KeywordAmount, Move, Opening, Payout, SeatExit, Turn}
use Rattle.fair_rows.specs.Amounts.{IsReadByCall}
use Rattle.fair_rows.specs.ExitCauses.{calls, first_cause, name, serves}
use Rattle.fair_rows.specs.Movements.{movement_of, names, takes_from}
use Rattle.fair_rows.specs.Seats.{IsOpen, IsSafe, Seat, SlotName, brand_under, new_seat}
use Rattle.fair_rows.specs.SoFar.{SoFar, sum_so_far, with_row}
use Rattle.fair_rows.specs.Values.{HaveKinds, content_of}

-- ---- movements that have to follow a row at once

pub data Due : Type 0 where
  -- one invitation is burned
  burn : Due
  -- an amount that an offer gives goes to the slot of its keyword
  escrow : ℕ → KeywordAmount → Due
  -- what a slot of the seat has goes to the payment, if the exit row names one
  payout : ℕ → SlotName → Content → Option ℕ → Due

-- ---- a turn, as far as it was read

pub record InTurn : Type 0 where
  -- what the turns before it tell, and its turn row; of that record's events and sums nothing is read
  pub before : SoFar
  pub row : Turn
  -- the rows of events so far, what all rows tell, and the movements that are due
  pub here : List Event
  pub now : SoFar
  pub due : List Due

-- the payment that stands under a keyword
abbrev pub payment_under : List ℕ → List Payout → Option ℕ
payment_under keyword [] = None
payment_under keyword (p ∷ ps) = if bytes_eq keyword p.keyword then Some p.payment else payment_under keyword ps

-- the turn is an offer that was answered
abbrev pub is_service : Kind → Bool
is_service kinds.service = true
is_service _ = false

abbrev pub is_offer : Turn → Bool
is_offer t = is_service t.kind && serves (codes "zoe") (codes "offer") t

-- each slot's whole content, as it is at the exit row
abbrev pub payouts_due : Table → SeatExit → List SlotName → List Due
payouts_due t x slots = map (λ slot. payout x.seat slot (holds t (Slot x.seat slot.keyword) slot.brand) (payment_under slot.keyword x.payouts)) slots

abbrev pub slots_at : List Seat → ℕ → List SlotName
slots_at seats n = unwrap_or (option_map (λ s. s.slots) (slice_get seats n)) []

-- after an offer's open row the burn and the escrows, after an exit row a payout of each slot
abbrev pub due_after : InTurn → Event → List Due
due_after i (opened o) = if is_offer i.row then burn ∷ map (escrow o.seat) o.give else []
due_after i (exited x) = payouts_due i.now.table x (slots_at i.now.seats x.seat)
due_after i _ = []

abbrev pub still_due : List Due → List Due → List Due
still_due [] new = new
still_due (d ∷ ds) new = ds

-- with one more row
abbrev pub after_event : InTurn → Event → InTurn
after_event i e = record { before = i.before; row = i.row; here = i.here ++ e ∷ []; now = with_row i.now e; due = still_due i.due (due_after i e) }

-- ---- movements

-- some element, once, of brand 0 is burned from a payment
pub record IsBurn (m : Move) : Type 0 where
  pub payment : ℕ
  pub invitation : List ℕ
  pub brand : m.brand ≡ 0
  pub from : m.from ≡ Payment payment
  pub to : m.to ≡ Outside
  pub one : content_of m.value ≡ one_of invitation

-- exactly the amount goes from a payment to the slot
pub record IsEscrow (seat : ℕ) (a : KeywordAmount) (m : Move) : Type 0 where
  pub payment : ℕ
  pub is : m ≡ record { brand = a.brand; from = Payment payment; to = Slot seat a.keyword; value = a.value }

-- the content goes from the slot to the payment that the exit row names, which no movement before it names
pub record IsPayout (moves : List Movement) (seat : ℕ) (slot : SlotName) (c : Content) (found : Option ℕ) (m : Move) : Type 0 where
  pub payment : ℕ
  pub named : found ≡ Some payment
  pub brand : m.brand ≡ slot.brand
  pub from : m.from ≡ Slot seat slot.keyword
  pub to : m.to ≡ Payment payment
  pub whole : content_of m.value ≡ c
  pub new : names payment moves ≡ false

abbrev pub IsDueMove : List Movement → Due → Move → Type 0
IsDueMove moves burn m = IsBurn m
IsDueMove moves (escrow seat a) m = IsEscrow seat a m
IsDueMove moves (payout seat slot c found) m = IsPayout moves seat slot c found m

-- a slot is of an open seat, and of the brand
pub record IsOpenSlot (seats : List Seat) (seat : ℕ) (keyword : List ℕ) (brand : ℕ) : Type 0 where
  pub is_open : IsOpen seats seat
  pub of_brand : (b : ℕ) → brand_under keyword is_open.seat.slots ≡ Some b → b ≡ brand

pub record NamesOpenSlots (seats : List Seat) (m : Move) : Type 0 where
  pub from : (seat : ℕ) (keyword : List ℕ) → m.from ≡ Slot seat keyword → IsOpenSlot seats seat keyword m.brand
  pub to : (seat : ℕ) (keyword : List ℕ) → m.to ≡ Slot seat keyword → IsOpenSlot seats seat keyword m.brand

-- whatever it is for: it can be made, after it no more of its brand was ever minted than may be, and it names no
-- payment that an earlier turn took from
pub record IsFairMove (i : InTurn) (m : Move) : Type 0 where
  pub defined : CanMove i.now.table (movement_of m)
  pub minted : (sum_so_far (with_row i.now (moved m)) m.brand).minted ≤ minted_bound
  pub live : (p : ℕ) → takes_from p i.before.moves ≡ true → names p (movement_of m ∷ []) ≡ false

-- ---- openings

-- a call row of makeEmptySeatKit, of whichever instance, stands right before
pub record FollowsKit (here : List Event) : Type 0 where
  pub more : List Event
  pub call : Call
  pub last : here ≡ more ++ called call ∷ []
  pub instance : ℕ
  pub made : calls (name (codes "zcf") instance) (codes "makeEmptySeatKit") call ≡ true

-- the next seat is opened, each of its slots is of one brand, by an offer that is answered or behind a kit's call, and
-- behind that it gives and wants nothing
pub record IsFairOpening (i : InTurn) (o : Opening) : Type 0 where
  pub next : o.seat ≡ length i.now.seats
  pub of_brand : AllByRecursion (λ a. brand_under a.keyword (new_seat o).slots ≡ Some a.brand) (o.give ++ o.want)
  pub by : (is_offer i.row ≡ true) ⊎ FollowsKit i.here
  pub empty : FollowsKit i.here → (o.give ≡ []) × (o.want ≡ [])

-- ---- exits

-- an open seat exits, with the first cause that the rows so far show; it is covered, and a payment stands for each slot,
-- which no movement so far names
pub record IsFairExit (i : InTurn) (x : SeatExit) : Type 0 where
  pub is_open : IsOpen i.now.seats x.seat
  pub cause : first_cause i.before.owners i.row i.here is_open.seat.opening.instance x.seat ≡ Some x.cause
  pub safe : IsSafe i.now.table is_open.seat.opening
  pub as_many : length x.payouts ≡ length is_open.seat.slots
  pub named : AllByRecursion (λ slot. is_some (payment_under slot.keyword x.payouts) ≡ true) is_open.seat.slots
  pub fresh : AllByRecursion (λ (p : Payout). names p.payment i.now.moves ≡ false) x.payouts

-- ---- rows

-- where movements are due, the first of them; else what the row is
abbrev pub IsInPlace : List Due → InTurn → Event → Type 0
IsInPlace [] i (called c) = IsReadByCall i.now.table c
IsInPlace [] i (opened o) = IsFairOpening i o
IsInPlace [] i (moved m) = NamesOpenSlots i.now.seats m
IsInPlace [] i (exited x) = IsFairExit i x
IsInPlace [] i (settled promise result) = Unit {0}
IsInPlace (d ∷ ds) i (moved m) = IsDueMove i.now.moves d m
IsInPlace (d ∷ ds) i _ = ⊥

abbrev pub AreFairMoves : InTurn → Event → Type 0
AreFairMoves i (moved m) = IsFairMove i m
AreFairMoves i _ = Unit {0}

-- neither an opening, nor a movement, nor an exit
abbrev pub ChangesNothing : Event → Type 0
ChangesNothing (called c) = Unit {0}
ChangesNothing (settled promise s) = Unit {0}
ChangesNothing _ = ⊥

pub record IsFairRow (i : InTurn) (e : Event) : Type 0 where
  pub place : IsInPlace i.due i e
  pub moves : AreFairMoves i e
  pub kinds : HaveKinds (with_row i.now e).amounts
  pub refusal : (code : List ℕ) (shown : Items) → i.row.answer ≡ refused code shown → ChangesNothing e
