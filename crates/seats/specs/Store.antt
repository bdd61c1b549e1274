-- Seats by number, what is staged of them, and which seats are of an instance.
use Rattle.std.specs.Prelude.{◌≡◌, ℕ, suc, ◌-◌, ◌<◌, ◌≤◌, ◌==◌, List, [], ◌∷◌, IsSome, None, if◌then◌else◌, is_none, length, map, slice_index_or, slice_set, take, refl}
use Rattle.std.specs.Coded.{Coded, code_by, coded×, coded_list}
use Rattle.ertp_mint.specs.amount_math.Content.{Content}
use Rattle.ertp_mint.specs.amount_math.ValueView.{IsPutRefusal}
use Rattle.ertp_mint.specs.amount_math.declared.Kind.{Kind}
use Rattle.ertp_mint.specs.Balances.{BalanceView}
use Rattle.ertp_mint.specs.Stocks.{most_made}
use Rattle.proposals.specs.Slots.{emptied, slots_of}
use Rattle.proposals.specs.declared.allocations.Share.{Share}
use Rattle.proposals.specs.declared.offers.Exit.TheVariants.{OnDemand}
use Rattle.proposals.specs.declared.plans.SeatState.{SeatState}
use Rattle.seats.specs.Instances.{list_at}
use Rattle.seats.specs.Seats.{IsOpen, SeatView, allocation_of, closed_seat, coded_seat, stored_in}
use Rattle.seats.specs.Slots.{HasSlot, shares_in}
use Rattle.seats.specs.declared.seats.SlotFault.{SlotFault}
use Rattle.seats.specs.declared.seats.SlotFault.TheVariants.{Put, SeatExited}
use Rattle.seats.specs.Staging.{coded_staging, staged_at, without_staged}

-- the seats by number, and, apart from them, what is staged until the turn ends
pub record SeatsView : Type 0 where
  pub seats : List SeatView
  pub staging : List (ℕ × List Share)

-- the numbers that stand for them, which a model needs
abbrev pub coded_seats : Coded SeatsView
coded_seats = code_by (List SeatView × List (ℕ × List Share)) (coded× (coded_list coded_seat) coded_staging) (λ s. (s.seats, s.staging)) (λ p. record { seats = p.0; staging = p.1 }) (λ _. refl)

-- what is read where no seat was made
abbrev pub no_seat : SeatView
no_seat = record { instance = 0; proposal = record { give = []; want = []; exit = OnDemand }; slots = []; last = None }

abbrev pub seat_at : List SeatView → ℕ → SeatView
seat_at seats n = slice_index_or seats n no_seat

abbrev pub seat_in : ℕ → SeatsView → SeatView
seat_in n all = seat_at all.seats n

-- what is stored in the slot of a keyword of a seat
abbrev pub slot_store : ℕ → List ℕ → SeatsView → BalanceView
slot_store n keyword all = stored_in keyword (seat_in n all)

-- a keyword has a slot in a seat
abbrev pub HasSlotIn : ℕ → List ℕ → SeatsView → Type 0
HasSlotIn n keyword all = HasSlot keyword (seat_in n all).slots

-- the seats, of which the one of a number is changed
abbrev pub changed_at : ℕ → (SeatView → SeatView) → List SeatView → List SeatView
changed_at n change seats = slice_set seats n (change (seat_at seats n))

abbrev pub at_seat : ℕ → (SeatView → SeatView) → SeatsView → SeatsView
at_seat n change all = record all { seats = changed_at n change all.seats }

-- the seats once one is closed, of which nothing is staged then
abbrev pub with_closed : ℕ → SeatsView → SeatsView
with_closed n all = record { seats = changed_at n closed_seat all.seats; staging = without_staged n all.staging }

-- the seats of an instance, in the order of their making, where the first of the list has the number n
abbrev pub seats_from : ℕ → ℕ → List SeatView → List ℕ
seats_from n instance [] = []
seats_from n instance (s ∷ ss) = if s.instance == instance then n ∷ seats_from (suc n) instance ss else seats_from (suc n) instance ss

abbrev pub seats_of : ℕ → List SeatView → List ℕ
seats_of instance seats = seats_from 0 instance seats

-- a seat to which nothing was done but that it was opened
pub record IsNew (seat : SeatView) : Type 0 where
  pub is_open : IsOpen seat
  pub empty : shares_in seat.slots ≡ map emptied (slots_of seat.proposal)

-- all seats but the one that was made last, of which nothing is staged then
abbrev pub without_last : SeatsView → SeatsView
without_last all = record { seats = take (length all.seats - 1) all.seats; staging = without_staged (length all.seats - 1) all.staging }

-- what a seat is while a change is planned
abbrev pub state_of : ℕ → SeatsView → SeatState
state_of n all = record {
  seat = n;
  instance = (seat_at all.seats n).instance;
  proposal = (seat_at all.seats n).proposal;
  allocation = allocation_of (seat_at all.seats n);
  staged = staged_at n all.staging;
  is_open = is_none (seat_at all.seats n).last;
}

-- what is staged is of open seats
pub record AreOpen (seats : List SeatView) (staging : List (ℕ × List Share)) : Type 0 where
  pub made : (n : ℕ) → IsSome (staged_at n staging) → n < length seats
  pub is_open : (n : ℕ) → IsSome (staged_at n staging) → IsOpen (seat_at seats n)

-- the seats of each instance are listed, and what is staged is of open ones
pub record AreListed (seats : List SeatView) (lists : List (ℕ × List ℕ)) (staging : List (ℕ × List Share)) : Type 0 where
  pub few : length seats ≤ most_made
  pub listed : (instance : ℕ) → list_at lists instance ≡ seats_of instance seats
  pub staged : AreOpen seats staging

-- when a parcel isn't put in a slot: the seat was closed, or the slot refuses it as a store does
abbrev pub IsSlotRefusal : Kind → Content → SlotFault → Type 0
IsSlotRefusal kind c SeatExited = Unit {0}
IsSlotRefusal kind c (Put fault) = IsPutRefusal kind c fault
