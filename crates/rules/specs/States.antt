-- Seats of the world, as rules and as plans of changes see them, the room that a change needs, and the effects
-- that it has.
use Rattle.std.specs.List.{list_all}
use Rattle.std.specs.Prelude.{ℕ, suc, ◌+◌, nat_le, is_none, List, [], ◌∷◌, ◌++◌, length, map, None, unwrap_or, Result}
use Rattle.call_arguments.specs.proposals.Shares.{most_shares}
use Rattle.call_arguments.specs.proposals.declared.allocations.Share.{Share}
use Rattle.call_arguments.specs.proposals.declared.plans.SeatState.{SeatState}
use Rattle.call_arguments.specs.proposals.declared.plans.Touched.{Touched}
use Rattle.call_arguments.specs.refusals.Codes.{limit, seat_exited}
use Rattle.call_arguments.specs.refusals.Outcomes.{◌>>◌, need}
use Rattle.call_arguments.specs.refusals.declared.codes.Refusal.{Refusal}
use Rattle.rearrange.specs.Moves.{opened_by}
use Rattle.rearrange.specs.TestedPlans.{is_small}
use Rattle.rearrange.specs.ertp_mint.Stocks.{most_made}
use Rattle.rearrange.specs.rights_model.declared.Movement.{Movement}
use Rattle.world_state.specs.Good.{open_slots}
use Rattle.world_state.specs.Rights.{slots_at}
use Rattle.world_state.specs.Worlds.{Effect, Seat, State, moves, seat_at, staged_at, unstage}

-- ---- seats

abbrev pub seat_of : State → ℕ → Seat
seat_of w seat = seat_at w.seats seat

-- the seat wasn't left
unfoldable pub is_open : State → ℕ → Result (Unit {0}) Refusal
is_open w seat = need (is_none (seat_of w seat).last) (seat_exited seat)

abbrev pub allocation_of : State → ℕ → List Share
allocation_of w seat = slots_at w.rights.slots seat

-- ---- seats, as plans of changes see them

-- what a seat has, or had when it was left
abbrev pub last_allocation : State → ℕ → List Share
last_allocation w seat = unwrap_or (seat_of w seat).last (slots_at w.rights.slots seat)

unfoldable pub state_of : State → ℕ → SeatState
state_of w seat = record {
  seat = seat;
  instance = (seat_of w seat).instance;
  proposal = (seat_of w seat).proposal;
  allocation = last_allocation w seat;
  staged = staged_at w.staging seat;
  is_open = is_none (seat_of w seat).last;
}

-- the same with nothing staged
abbrev pub unstaged : SeatState → SeatState
unstaged s = record s { staged = None }

-- all seats, by number
abbrev pub states_from : State → ℕ → List Seat → List SeatState
states_from w n [] = []
states_from w n (s ∷ ss) = state_of w n ∷ states_from w (suc n) ss

abbrev pub all_states : State → List SeatState
all_states w = states_from w 0 w.seats

-- a seat whose slots change
abbrev pub touched_seat : ℕ → List Share → List Share → Touched
touched_seat seat before after = record { seat = seat; before = before; after = after }

-- ---- room

-- so many payments may still be made, beside one for each slot of an open seat
unfoldable pub leaves_room : State → ℕ → Result (Unit {0}) Refusal
leaves_room w n =
    let kept = length w.rights.payments + open_slots w.seats w.rights.slots in
    need (nat_le (kept + n) most_made) (limit most_made)

-- no seat has over 64 slots after, and the slots that are opened leave room, with so many payments
unfoldable pub has_room : State → List Touched → ℕ → Result (Unit {0}) Refusal
has_room w touched n =
    need (list_all is_small touched) (limit most_shares) >> leaves_room w (opened_by touched + n)

-- ---- effects

-- what is staged of the seats is dropped, then the movements are made
abbrev pub changing : List ℕ → List Movement → List Effect
changing seats ms = map (λ seat. unstage seat) seats ++ moves ms ∷ []
