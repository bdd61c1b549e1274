-- What transfers make of the seats that they name, worked one after the other on a working copy (Zoe's atomicRearrange; the order of the refusals is our own).
use Rattle.std.specs.Prelude.{ℕ, ◌==◌, List, [], ◌∷◌, ◌++◌, fold, flat_map, map, Option, None, Some, unwrap_or, if◌then◌else◌}
use Rattle.std.specs.List.{list_any}
use Rattle.std.specs.Option.{option_map_or}
use Rattle.proposals.specs.declared.allocations.Share.{Share}
use Rattle.proposals.specs.declared.plans.SeatState.{SeatState}
use Rattle.proposals.specs.declared.plans.Touched.{Touched}
use Rattle.proposals.specs.declared.plans.Transfer.{Transfer}
use Rattle.proposals.specs.Gains.{with_gains}
use Rattle.proposals.specs.Losses.{without}
use Rattle.rearrange.specs.Seats.{allocation_of, seats_named, state_of}
use Rattle.rearrange.specs.Staged.{Agree, shares_of, touched_with}

-- seats in the order in which they first stand, each once
abbrev pub with_seat : List ℕ → ℕ → List ℕ
with_seat seats seat = if list_any (λ other. other == seat) seats then seats else seats ++ seat ∷ []

abbrev pub once : List ℕ → List ℕ
once seats = fold with_seat [] seats

-- what a transfer takes, and what it gives: where that is missing, what it takes
abbrev pub losses_of : Transfer → List Share
losses_of t = unwrap_or t.from_amounts []

abbrev pub gains_of : Transfer → List Share
gains_of t = unwrap_or t.to_amounts (losses_of t)

-- what each seat has, with other shares at one of them
abbrev pub with_shares : Option ℕ → (ℕ → List Share) → (ℕ → List Share) → ℕ → List Share
with_shares None shares has seat = has seat
with_shares (Some one) shares has seat = if seat == one then shares one else has seat

-- what each seat has once a transfer's losses are taken, and once its gains are given too
abbrev pub lowered_by : (ℕ → List Share) → Transfer → ℕ → List Share
lowered_by has t = with_shares t.from (λ seat. without (has seat) (losses_of t)) has

abbrev pub worked_by : (ℕ → List Share) → Transfer → ℕ → List Share
worked_by has t = with_shares t.to (λ seat. with_gains (lowered_by has t seat) (gains_of t)) (lowered_by has t)

-- what each seat has once all are worked
abbrev pub worked : (ℕ → List Share) → List Transfer → ℕ → List Share
worked has [] = has
worked has (t ∷ ts) = worked (worked_by has t) ts

-- each seat that is named takes over what it has then
abbrev pub transfers_plan : List SeatState → List Transfer → List Touched
transfers_plan states list = map (λ seat. touched_with states seat (worked (allocation_of states) list seat)) (once (seats_named list))

-- all amounts that are given for a seat: those of its state, and what transfers take from it or give to it
abbrev pub shares_at : Option ℕ → List Share → ℕ → List Share
shares_at None shares seat = []
shares_at (Some one) shares seat = if one == seat then shares else []

abbrev pub amounts_for : ℕ → Transfer → List Share
amounts_for seat t = shares_at t.from (losses_of t) seat ++ shares_at t.to (gains_of t) seat

abbrev pub all_amounts : List SeatState → List Transfer → ℕ → List Share
all_amounts states list seat = option_map_or shares_of (state_of states seat) [] ++ flat_map (amounts_for seat) list

-- all amounts for the seat and one keyword are of one brand and kind
abbrev pub HasOneBrand : List SeatState → List Transfer → ℕ → Type 0
HasOneBrand states list seat = Agree (all_amounts states list seat) (all_amounts states list seat)
