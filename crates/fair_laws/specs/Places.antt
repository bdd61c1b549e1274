-- What the rows of a journal tell of a world: its seats, who holds what, how many payments were made.
use Rattle.std.specs.Prelude.{ℕ, suc, List, [], ◌∷◌, length, map}
use Rattle.std.specs.Option.{option_map}
use Rattle.fair_rows.specs.amount_math.Content.{Content}
use Rattle.delivery_laws.specs.proposals.declared.allocations.Share.{Share}
use Rattle.fair_rows.specs.Acts.{Place}
use Rattle.fair_rows.specs.Seats as told
use Rattle.fair_rows.specs.Seats.{SlotName}
use Rattle.delivery_laws.specs.turn_records.Events.{Event}
use Rattle.delivery_laws.specs.turn_records.Printed.{printed_event, printed_opening}
use Rattle.fair_rows.specs.turn_rows.Turns as rows
use Rattle.delivery_laws.specs.world_state.Worlds.{Seat, State}
use Rattle.delivery_laws.specs.world_laws.Tables.{table_of}

-- a slot's keyword with its brand, and what the slot has
abbrev pub slot_name : Share → SlotName
slot_name r = record { keyword = r.keyword; brand = r.amount.brand }

abbrev pub slot_content : Share → Content
slot_content r = r.amount.value.content

-- a seat, by its number, with its slots
abbrev pub opening_told : ℕ → Seat → rows.Opening
opening_told n seat =
    printed_opening (record { seat = n; instance = seat.instance; proposal = seat.proposal })

abbrev pub seat_told : ℕ → Seat → List Share → told.Seat
seat_told n seat slots = record {
  opening = opening_told n seat;
  slots = map slot_name slots;
  last = option_map (map slot_content) seat.last;
}

-- seats, numbered from n
abbrev pub seats_from : ℕ → List Seat → List (List Share) → List told.Seat
seats_from n [] slots = []
seats_from n (s ∷ ss) [] = []
seats_from n (s ∷ ss) (rows ∷ rest) = seat_told n s rows ∷ seats_from (suc n) ss rest

abbrev pub seats_told : State → List told.Seat
seats_told w = seats_from 0 w.seats w.rights.slots

abbrev pub place_of : State → Place
place_of w = record {
  table = table_of w.rights;
  seats = seats_told w;
  payments = length w.rights.payments;
}

-- what happened so far, as it is printed
abbrev pub rows_of : List Event → List rows.Event
rows_of events = map printed_event events
