-- Which causes for leaving calls show of the open seats of a world: just those that are still to be acted on.
use Rattle.std.specs.Prelude.{◌≡◌, ◌<◌, ◌==◌, ◌^◌, ℕ, if◌then◌else◌, List, [], ◌∷◌, Option, Some, None, length}
use Rattle.std.specs.List.{AllByRecursion}
use Rattle.delivery_laws.specs.rules.Traces.{Departure, departures_by}
use Rattle.delivery_laws.specs.host_data.Tree.{Tree}
use Rattle.delivery_laws.specs.host_data.declared.data.Obj.{Obj}
use Rattle.delivery_laws.specs.host_data.declared.data.ObjKind.{ObjKind}
use Rattle.delivery_laws.specs.host_data.declared.data.ObjKind.TheVariants as kinds
use Rattle.fair_rows.specs.turn_rows.Kinds as hows
use Rattle.fair_rows.specs.turn_rows.Kinds.{How}
use Rattle.fair_laws.specs.Places.{rows_of}
use Rattle.fair_rows.specs.ExitCauses.{Owners, cause_by_calls, first_cause, while_open}
use Rattle.delivery_laws.specs.turn_records.Events.{Answer, Call, Event, exited, given, opened}
use Rattle.fair_rows.specs.turn_rows.Causes.{Cause}
use Rattle.fair_rows.specs.turn_rows.Turns.{Turn}
use Rattle.delivery_laws.specs.world_state.Worlds.{Effect, IsOpen, Seat, State, after, exit, note_call, seat_at}

-- the first of the departures that is of the seat
abbrev pub cause_in : ℕ → List Departure → Option Cause
cause_in n [] = None
cause_in n (d ∷ ds) = if d.seat == n then Some d.cause else cause_in n ds

-- what the calls of the turn so far show for a seat, from its opening on
abbrev pub cause_shown : State → ℕ → Option Cause
cause_shown w n = cause_by_calls (seat_at w.seats n).instance n (while_open n (rows_of w.log))

-- a seat that was opened in the turn has a number below this
abbrev pub OpensBelow : ℕ → Event → Type 0
OpensBelow n (opened o) = o.seat < n
OpensBelow n _ = Unit {0}

-- a seat that was left in the turn isn't open
abbrev pub IsLeft : List Seat → Event → Type 0
IsLeft seats (exited x) = (x.seat < length seats) × (IsOpen (seat_at seats x.seat) → ⊥)
IsLeft seats _ = Unit {0}

-- the departures that are still to come are just what calls show of open seats
pub record Owes (w : State) (ds : List Departure) : Type 0 where
  pub shown : (n : ℕ) → IsOpen (seat_at w.seats n) → cause_shown w n ≡ cause_in n ds
  pub made : AllByRecursion (λ (d : Departure). d.seat < length w.seats) ds
  pub opened : AllByRecursion (OpensBelow (length w.seats)) w.log
  pub left : AllByRecursion (IsLeft w.seats) w.log

-- a seat that is left is left for the first cause that the turn's rows show
abbrev pub HasCause : Owners → Turn → State → Effect → Type 0
HasCause owners t w (exit s cause) =
    first_cause owners t (rows_of w.log) (seat_at w.seats s).instance s ≡ Some cause
HasCause owners t w _ = Unit {0}

abbrev pub HaveCauses : Owners → Turn → State → List Effect → Type 0
HaveCauses owners t w [] = Unit {0}
HaveCauses owners t w (e ∷ es) = HasCause owners t w e × HaveCauses owners t (after w e) es

-- no call is told
abbrev pub IsUncalled : Effect → Type 0
IsUncalled (note_call c) = ⊥
IsUncalled _ = Unit {0}

abbrev pub AreUncalled : List Effect → Type 0
AreUncalled es = AllByRecursion IsUncalled es

-- ---- calls that are answered

abbrev pub answered : Obj → List ℕ → List Tree → Tree → Call
answered o m args answer = record {
  how = hows.calls;
  on = Some o;
  method = m;
  arguments = args;
  answer = given answer;
}

-- seats of users are no target of a contract's calls
abbrev pub IsNoUserSeat : ObjKind → Type 0
IsNoUserSeat kinds.Seat = ⊥
IsNoUserSeat _ = Unit {0}

-- what is named has numbers that are told apart by their texts
pub record Tells (w : State) (o : Obj) (m : List ℕ) : Type 0 where
  pub on : IsNoUserSeat o.kind
  pub number : o.number < 2 ^ 128
  pub seats : (n : ℕ) → IsOpen (seat_at w.seats n) → n < 2 ^ 128
  pub instances : (n : ℕ) → IsOpen (seat_at w.seats n) → (seat_at w.seats n).instance < 2 ^ 128
  pub made : AllByRecursion (λ (d : Departure). d.seat < length w.seats) (departures_by w o m)

-- a call of a method that is answered alone shows a cause
abbrev pub ShowsNothing : How → Answer → Type 0
ShowsNothing hows.calls (given t) = ⊥
ShowsNothing _ _ = Unit {0}
