-- A seat in memory: what it was opened for, what is stored in its slots, and what they had when it was closed (Zoe).
use Rattle.std.specs.Prelude.{ℕ, ◌-◌, ◌<◌, ◌≤◌, List, [], ◌∷◌, ◌++◌, Option, None, Some, IsNone, if◌then◌else◌, is_none, length, map, nat_lt, take, unwrap_or, refl}
use Rattle.std.specs.Coded.{Coded, code_by, coded×, coded_list, coded_option, coded_ℕ}
use Rattle.ertp_mint.specs.amount_math.Content.{Content, sum}
use Rattle.ertp_mint.specs.amount_math.declared.Amount.{Amount}
use Rattle.ertp_mint.specs.Balances.{BalanceView, empty_store, with_put, with_taken}
use Rattle.proposals.specs.Proposals.{coded_proposal}
use Rattle.proposals.specs.Shares.{coded_share, content_under, most_shares}
use Rattle.proposals.specs.Slots.{slots_of}
use Rattle.proposals.specs.declared.allocations.Share.{Share}
use Rattle.proposals.specs.declared.offers.Proposal.{Proposal}
use Rattle.seats.specs.Slots.{SlotView, coded_slot, empty_slot, place_of, shares_in, slot_of, stored_at, stored_under}

-- a seat is open until it is closed. It keeps what its slots had then
pub record SeatView : Type 0 where
  pub instance : ℕ
  pub proposal : Proposal
  pub slots : List SlotView
  pub last : Option (List Share)

-- the numbers that stand for a seat, which a model needs
abbrev pub coded_seat : Coded SeatView
coded_seat =
    code_by ((ℕ × Proposal) × (List SlotView × Option (List Share))) (coded× (coded× coded_ℕ coded_proposal) (coded× (coded_list coded_slot) (coded_option (coded_list coded_share))))
    (λ s. ((s.instance, s.proposal), (s.slots, s.last))) (λ p. record { instance = p.0.0; proposal = p.0.1; slots = p.1.0; last = p.1.1 }) (λ _. refl)

-- a seat that was just opened: a slot for each share of the proposal, give's before want's, with nothing
abbrev pub new_seat : ℕ → Proposal → SeatView
new_seat instance proposal = record { instance = instance; proposal = proposal; slots = map empty_slot (slots_of proposal); last = None }

abbrev pub IsOpen : SeatView → Type 0
IsOpen seat = IsNone seat.last

-- what its slots have, or had when it was closed
abbrev pub allocation_of : SeatView → List Share
allocation_of seat = unwrap_or seat.last (shares_in seat.slots)

-- how many slots a seat has while it is open, each of which is to be paid out
abbrev pub open_slots_in : SeatView → ℕ
open_slots_in seat = if is_none seat.last then length seat.slots else 0

-- what is stored in the slot of a keyword
abbrev pub stored_in : List ℕ → SeatView → BalanceView
stored_in keyword seat = stored_under keyword seat.slots

-- what the slot of a keyword would have with a parcel more
abbrev pub sum_with : List ℕ → Amount → SeatView → Content
sum_with keyword parcel seat = sum (content_under keyword (shares_in seat.slots)) parcel.value.content

-- a seat with this stored in the slot of a keyword
abbrev pub with_stored : List ℕ → BalanceView → SeatView → SeatView
with_stored keyword stored seat = record seat { slots = stored_at (place_of keyword seat.slots) stored seat.slots }

-- a seat with a content more in the slot of a keyword, one with a content less, and one with this room for it
abbrev pub with_more : List ℕ → Content → SeatView → SeatView
with_more keyword c seat = with_stored keyword (with_put (stored_in keyword seat) c) seat

abbrev pub with_less : List ℕ → Content → SeatView → SeatView
with_less keyword c seat = with_stored keyword (with_taken (stored_in keyword seat) c) seat

abbrev pub with_room : List ℕ → ℕ → SeatView → SeatView
with_room keyword room seat = with_stored keyword (record (stored_in keyword seat) { room = room }) seat

-- a seat with a further slot, last, with nothing of an amount's brand
abbrev pub with_further : List ℕ → Amount → SeatView → SeatView
with_further keyword amount seat = record seat { slots = seat.slots ++ slot_of keyword (empty_store amount.brand amount.value.kind) ∷ [] }

-- a seat that has a slot of the keyword, which is a further one where there was none
abbrev pub with_slot : List ℕ → Amount → SeatView → SeatView
with_slot keyword amount seat = record seat { slots = if nat_lt (place_of keyword seat.slots) (length seat.slots) then seat.slots else (with_further keyword amount seat).slots }

-- a seat with a parcel put in the slot of a keyword, or in a further slot, which has this room then
abbrev pub put_in : List ℕ → Amount → ℕ → SeatView → SeatView
put_in keyword parcel room seat = with_room keyword room (with_more keyword parcel.value.content (with_slot keyword parcel seat))

-- a seat without the slot that stands last
abbrev pub without_last_slot : SeatView → SeatView
without_last_slot seat = record seat { slots = take (length seat.slots - 1) seat.slots }

-- a keyword has a slot, or a further one can be opened for it
abbrev pub HasPlace : List ℕ → SeatView → Type 0
HasPlace keyword seat = length seat.slots ≤ place_of keyword seat.slots → length seat.slots < most_shares

-- a seat once it is closed, and one that is open again
abbrev pub closed_seat : SeatView → SeatView
closed_seat seat = record seat { last = Some (shares_in seat.slots) }

abbrev pub reopened_seat : SeatView → SeatView
reopened_seat seat = record seat { last = None }
