-- What is kept of why seats exit, and what it tells of a turn as far as it was read.
use Rattle.std.specs.Prelude.{◌≡◌, ◌↔◌, ◌<◌, ◌==◌, ℕ, Bool, true, false, is_some, List, ◌++◌, length, map, Option, Some, None, IsTrue, codes}
use Rattle.std.specs.BTreeMap.{get}
use Rattle.std.specs.BTreeSet.{contains}
use Rattle.std.specs.List.{AllByRecursion, list_any, slice_get}
use Rattle.std.specs.Option.{option_map}
use Rattle.std.specs.Ordering.{nat_cmp, ordering_then}
use Rattle.std.specs.declared.cmp.Ordering.{Ordering}
use Rattle.row_records.specs.fair_rows.ExitCauses.{Owners, calls, cause_by_calls, cause_by_row, cause_if, cause_of_call, cause_of_own_call, facets_made, first_cause, instance_of, name, while_open}
use Rattle.row_records.specs.fair_rows.Rows.{FollowsKit, InTurn, is_offer}
use Rattle.row_records.specs.fair_rows.Seats.{IsOpen, Seat}
use Rattle.row_records.specs.fair_rows.SoFar.{SoFar}
use Rattle.row_records.specs.fair_rows.Turns.{IsCaused}
use Rattle.row_records.specs.turn_records.Views.{cause_view}
use Rattle.row_records.specs.turn_rows.Causes as causes
use Rattle.row_records.specs.turn_rows.Form.{objects_end}
use Rattle.row_records.specs.turn_rows.Turns.{Call, Event, exited, moved, opened, settled}
use Rattle.told_causes.specs.ToldFacets.{TellsOwners, owner_name}
use Rattle.told_causes.specs.declared.causes.Causes.{Causes}
use Rattle.told_causes.specs.declared.standings.Shows.{Shows}
use Rattle.told_causes.specs.declared.standings.Shows.TheVariants.{OfSeat, OfInstance}
use Rattle.told_causes.specs.declared.standings.Standing.{Standing}
use Rattle.told_causes.specs.declared.standings.Standings.{Standings}

-- ---- what one row shows

-- of a seat by itself
abbrev pub shown_own : Shows → ℕ → Option causes.Cause
shown_own (OfSeat n c) seat = cause_if (n == seat) (cause_view c)
shown_own _ seat = None

-- of a seat, by itself or with all of its instance
abbrev pub shown_of : Shows → ℕ → ℕ → Option causes.Cause
shown_of (OfInstance n c) instance seat = cause_if (n == instance) (cause_view c)
shown_of shows instance seat = shown_own shows seat

-- of each seat what a call shows
pub record IsShownBy (shows : Shows) (c : Call) : Type 0 where
  pub own : (n : ℕ) → n < objects_end → shown_own shows n ≡ cause_of_own_call n c
  pub all : (instance n : ℕ) → instance < objects_end → n < objects_end → shown_of shows instance n ≡ cause_of_call instance n c

-- of each seat what the turn row shows
abbrev pub IsShownByRow : Shows → InTurn → Type 0
IsShownByRow shows i = (instance n : ℕ) → instance < objects_end → n < objects_end → shown_of shows instance n ≡ cause_by_row i.row.kind i.row.answer i.before.owners i.row instance n

-- ---- what the rows of a turn showed

abbrev pub pair_cmp : ℕ × ℕ → ℕ × ℕ → Ordering
pair_cmp p q = ordering_then (nat_cmp p.0 q.0) (nat_cmp p.1 q.1)

-- the seat of the instance is among those that wait
abbrev pub waits : Standings → ℕ → ℕ → Bool
waits k instance seat = contains pair_cmp k.waiting (instance, seat)

abbrev pub standing_at : Standings → ℕ → Option Standing
standing_at k seat = get nat_cmp k.standings seat

-- the seat's exit row is among these
abbrev pub exits : ℕ → Event → Bool
exits seat (exited x) = x.seat == seat
exits seat _ = false

abbrev pub has_exited : ℕ → List Event → Bool
has_exited seat es = list_any (exits seat) (while_open seat es)

abbrev pub by_calls : InTurn → ℕ → Seat → Option causes.Cause
by_calls i n s = cause_by_calls s.opening.instance n (while_open n i.here)

abbrev pub by_turn_row : InTurn → ℕ → Seat → Option causes.Cause
by_turn_row i n s = cause_by_row i.row.kind i.row.answer i.before.owners i.row s.opening.instance n

-- ---- how a seat stands

-- it is open, and no call showed a cause
pub record IsWaiting (i : InTurn) (n : ℕ) (s : Seat) : Type 0 where
  pub stays : s.last ≡ None
  pub here : has_exited n i.here ≡ false
  pub quiet : by_calls i n s ≡ None

-- it exited in a turn before
pub record IsGone (i : InTurn) (n : ℕ) (s : Seat) : Type 0 where
  pub went : is_some s.last ≡ true
  pub before : has_exited n i.here ≡ false

-- it is open, and a call showed a cause
pub record IsCalled (i : InTurn) (n : ℕ) (s : Seat) (st : Standing) : Type 0 where
  pub stays : s.last ≡ None
  pub here : has_exited n i.here ≡ false
  pub some : is_some st.shown ≡ true
  pub shown : by_calls i n s ≡ option_map cause_view st.shown

-- it exited in this turn; calls show this cause, and where none did, the turn row showed that of the exit row
pub record HasExited (i : InTurn) (n : ℕ) (s : Seat) (st : Standing) : Type 0 where
  pub went : is_some s.last ≡ true
  pub here : has_exited n i.here ≡ true
  pub shown : by_calls i n s ≡ option_map cause_view st.shown
  pub by_row : st.shown ≡ None → by_turn_row i n s ≡ option_map cause_view st.left

abbrev pub HasStanding : InTurn → ℕ → Seat → Standing → Option causes.Cause → Type 0
HasStanding i n s st None = IsCalled i n s st
HasStanding i n s st (Some c) = HasExited i n s st

-- by what stands for the seat, and whether it is among those that wait
abbrev pub StandsAs : InTurn → ℕ → Seat → Option Standing → Bool → Type 0
StandsAs i n s None true = IsWaiting i n s
StandsAs i n s None false = IsGone i n s
StandsAs i n s (Some st) true = ⊥
StandsAs i n s (Some st) false = HasStanding i n s st (option_map cause_view st.left)

-- ---- standings, and what they tell

-- a seat that was opened, of the instance
pub record IsSeatOf (seats : List Seat) (instance n : ℕ) : Type 0 where
  pub seat : Seat
  pub was_opened : slice_get seats n ≡ Some seat
  pub of_instance : seat.opening.instance ≡ instance

-- seats have the numbers 0, 1, 2 .., and those of seats and instances are below their end
pub record IsNumberedSeat (n : ℕ) (s : Seat) : Type 0 where
  pub number : s.opening.seat ≡ n
  pub below : n < objects_end
  pub instance : s.opening.instance < objects_end

-- the instance of each seat is kept, and none waits but seats that were opened
pub record KeepsSeats (k : Standings) (seats : List Seat) : Type 0 where
  pub numbered : (n : ℕ) (s : Seat) → slice_get seats n ≡ Some s → IsNumberedSeat n s
  pub instances : k.instances.items ≡ map (λ (s : Seat). s.opening.instance) seats
  pub waiting : (instance n : ℕ) → waits k instance n ≡ true → IsSeatOf seats instance n

-- between turns all open seats wait, and no other, whatever is kept of the turn before
pub record TellsStandingsBefore (k : Standings) (told : List Seat) : Type 0 where
  pub seats : KeepsSeats k told
  pub only : (n : ℕ) (s : Seat) → slice_get told n ≡ Some s → waits k s.opening.instance n ≡ true → s.last ≡ None
  pub all : (n : ℕ) (s : Seat) → slice_get told n ≡ Some s → s.last ≡ None → waits k s.opening.instance n ≡ true

-- an opening or an exit is of a seat below this number
abbrev pub IsOfSeatBelow : ℕ → Event → Type 0
IsOfSeatBelow end (opened o) = o.seat < end
IsOfSeatBelow end (exited x) = x.seat < end
IsOfSeatBelow end _ = Unit {0}

abbrev pub cause_at_exit : Option Standing → Option causes.Cause
cause_at_exit None = None
cause_at_exit (Some st) = option_map cause_view st.left

-- the exit row's cause is kept
abbrev pub IsExitKept : Standings → Event → Type 0
IsExitKept k (exited x) = cause_at_exit (standing_at k x.seat) ≡ Some x.cause
IsExitKept k _ = Unit {0}

pub record TellsStandings (k : Standings) (i : InTurn) : Type 0 where
  pub seats : KeepsSeats k i.now.seats
  pub stands : (n : ℕ) (s : Seat) → slice_get i.now.seats n ≡ Some s → StandsAs i n s (standing_at k n) (waits k s.opening.instance n)
  pub unopened : (n : ℕ) → is_some (standing_at k n) ≡ true → n < length i.now.seats
  pub named : AllByRecursion (IsOfSeatBelow (length i.now.seats)) i.here
  pub exits : AllByRecursion (IsExitKept k) i.here

-- ---- all that is kept, and what it tells

pub record TellsCausesBefore (k : Causes) (s : SoFar) : Type 0 where
  pub standings : TellsStandingsBefore k.standings s.seats
  pub facets : TellsOwners k.facets s.owners

-- the facets of the turns before, and of this one as far as it was read
abbrev pub owners_here : InTurn → Owners
owners_here i = i.before.owners ++ facets_made (instance_of i.before.owners i.row.kind i.row) i.here

pub record TellsCauses (k : Causes) (i : InTurn) : Type 0 where
  pub standings : TellsStandings k.standings i
  pub facets : TellsOwners k.facets (owners_here i)
  pub instance : owner_name k.instance ≡ instance_of i.before.owners i.row.kind i.row
  pub shows : IsShownByRow k.shows i
  pub offer : k.is_offer ≡ is_offer i.row
  pub kit : IsTrue k.follows_kit ↔ FollowsKit i.here

-- ---- what is asked of the turn's end

-- no cause was shown for an open seat, and each seat that exited did so for the first cause
pub record AreCaused (i : InTurn) : Type 0 where
  pub stays : (seat : ℕ) (is_open : IsOpen i.now.seats seat) → first_cause i.before.owners i.row i.here is_open.seat.opening.instance seat ≡ None
  pub caused : AllByRecursion (IsCaused i.now.seats i.before.owners i.row i.here) i.here

-- an answered call of makeEmptySeatKit, of whichever instance
pub record IsKitCall (c : Call) : Type 0 where
  pub instance : ℕ
  pub made : calls (name (codes "zcf") instance) (codes "makeEmptySeatKit") c ≡ true

-- a movement or a settlement
abbrev pub IsNoDeed : Event → Type 0
IsNoDeed (moved m) = Unit {0}
IsNoDeed (settled promise s) = Unit {0}
IsNoDeed _ = ⊥
