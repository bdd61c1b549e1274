-- The two promises of each seat, by the seat's number: those at the turn's start, and those of now.
use Rattle.std.specs.Prelude.{ℕ, List, [], ◌∷◌, ◌++◌, length, slice_index_or, take}
use Rattle.actors.specs.declared.instance_store.seat_promises.SeatPair.{SeatPair}
use Rattle.actors.specs.declared.instance_store.seat_promises.SeatPromises.{SeatPromises}

pub record SeatPromisesState : Type 0 where
  pub start : List SeatPair
  pub now : List SeatPair

-- the first ones were there at the start
abbrev pub seat_promises_of : SeatPromises → SeatPromisesState
seat_promises_of p = record { start = take p.kept p.pairs.items; now = p.pairs.items }

-- what is read where no seat was added
abbrev pub no_pair : SeatPair
no_pair = record { «result» = 0; payouts = 0 }

abbrev pub pair_at : List SeatPair → ℕ → SeatPair
pair_at pairs n = slice_index_or pairs n no_pair

-- those of now, and how many they are
abbrev pub now_of : SeatPromises → List SeatPair
now_of p = (seat_promises_of p).now

abbrev pub made : SeatPromises → ℕ
made p = length (now_of p)

-- one more is added
abbrev pub with_pair : SeatPair → SeatPromises → SeatPromisesState
with_pair pair p = record (seat_promises_of p) { now = now_of p ++ pair ∷ [] }

-- there are none
abbrev pub untouched : SeatPromisesState
untouched = record { start = []; now = [] }

-- how it was is forgotten, and how it is
abbrev pub kept_at : SeatPromisesState → SeatPromisesState
kept_at p = record { start = p.now; now = p.now }

abbrev pub back_at : SeatPromisesState → SeatPromisesState
back_at p = record { start = p.start; now = p.start }
