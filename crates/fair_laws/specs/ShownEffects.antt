-- What the rows of a turn must show for the row that an effect writes; and what effects tell then.
use Rattle.std.specs.Prelude.{◌≡◌, true, false, List, [], ◌∷◌, ◌++◌, Some, length}
use Rattle.std.specs.List.{AllByRecursion}
use Rattle.fair_rows.specs.Acts.{Act, AreActs, IsAnsweredCall, place_after, rows_of_acts}
use Rattle.fair_rows.specs.ExitCauses.{Owners, first_cause}
use Rattle.fair_rows.specs.Rows.{FollowsKit, is_offer}
use Rattle.fair_rows.specs.Strict.{IsEmptySeat}
use Rattle.delivery_laws.specs.turn_records.Printed.{printed_call}
use Rattle.fair_rows.specs.turn_rows.Turns.{Turn}
use Rattle.delivery_laws.specs.world_state.Worlds.{Effect, State, after, empty_seat, exit, moves, new_seat}
use Rattle.delivery_laws.specs.world_state.Worlds.{note_call, of_own, offer, seat_at}
use Rattle.delivery_laws.specs.rules.Licence.{IsStored}
use Rattle.fair_laws.specs.Places.{opening_told, place_of, rows_of}

-- An offer's seat is opened in the turn of an offer that is answered, an instance's own right after the call that
-- asks for it; a seat is left for the first cause that is shown; and what a call answers is what is held, told whole.
abbrev pub IsShown : Owners → Turn → State → Effect → Type 0
IsShown owners t w (moves ms) = AllByRecursion IsStored ms
IsShown owners t w (offer o) = (is_offer t ≡ true) × (FollowsKit (rows_of w.log) → ⊥)
IsShown owners t w (empty_seat i rule) =
    (is_offer t ≡ false)
    × IsEmptySeat (rows_of w.log) (opening_told (length w.seats) (new_seat i (of_own rule)))
IsShown owners t w (exit s cause) =
    first_cause owners t (rows_of w.log) (seat_at w.seats s).instance s ≡ Some cause
IsShown owners t w (note_call c) = IsAnsweredCall (rows_of w.log) (place_of w) (printed_call c)
IsShown owners t w _ = Unit {0}

abbrev pub AreShown : Owners → Turn → State → List Effect → Type 0
AreShown owners t w [] = Unit {0}
AreShown owners t w (e ∷ es) = IsShown owners t w e × AreShown owners t (after w e) es

-- from one world to another: what happened between is told by acts that are in place
pub record TellsActs (owners : Owners) (t : Turn) (w next : State) : Type 0 where
  pub acts : List Act
  pub are : AreActs owners t (rows_of w.log) (place_of w) acts
  pub told : rows_of next.log ≡ rows_of w.log ++ rows_of_acts acts
  pub place : place_after (place_of w) acts ≡ place_of next
