-- What single steps do to the standings of seats.
use Rattle.std.specs.Prelude.{◌≡◌, ◌≢◌, ◌⊎◌, ℕ, Bool, true, false, Option, Some, None}
use Rattle.std.specs.List.{slice_get}
use Rattle.row_records.specs.turn_records.declared.events.Cause.{Cause}
use Rattle.told_causes.specs.ToldCauses.{standing_at, waits}
use Rattle.told_causes.specs.declared.standings.Shows.{Shows}
use Rattle.told_causes.specs.declared.standings.Shows.TheVariants.{Nothing, OfSeat, OfInstance}
use Rattle.told_causes.specs.declared.standings.Standing.{Standing}
use Rattle.told_causes.specs.declared.standings.Standings.{Standings}

-- this stands for the seat, and all else is as before
pub record IsPut (old new : Standings) (seat : ℕ) (st : Standing) : Type 0 where
  pub instances : new.instances ≡ old.instances
  pub waiting : new.waiting ≡ old.waiting
  pub at : standing_at new seat ≡ Some st
  pub other : (n : ℕ) → seat ≢ n → standing_at new n ≡ standing_at old n

-- the seat waits, under its own instance
abbrev pub waits_at : Standings → Option ℕ → ℕ → Bool
waits_at k (Some instance) seat = waits k instance seat
waits_at k None seat = false

abbrev pub waits_own : Standings → ℕ → Bool
waits_own k seat = waits_at k (slice_get k.instances.items seat) seat

-- the seat doesn't wait, and all else is as before
pub record IsStopped (old new : Standings) (seat : ℕ) (was : Bool) : Type 0 where
  pub instances : new.instances ≡ old.instances
  pub standings : new.standings ≡ old.standings
  pub is : was ≡ waits_own old seat
  pub stopped : (instance : ℕ) → slice_get old.instances.items seat ≡ Some instance → waits new instance seat ≡ false
  pub other : (instance n : ℕ) → seat ≢ n → waits new instance n ≡ waits old instance n
  pub fewer : (instance n : ℕ) → waits new instance n ≡ true → waits old instance n ≡ true

-- a seat has exited, and if calls showed a cause then for that one
abbrev pub IsSettledAs : Option Cause → Option Cause → Type 0
IsSettledAs (Some left) (Some shown) = left ≡ shown
IsSettledAs (Some left) None = Unit {0}
IsSettledAs None _ = ⊥

abbrev pub IsSettled : Standing → Type 0
IsSettled st = IsSettledAs st.left st.shown

abbrev pub AreSettled : Standings → Type 0
AreSettled k = (n : ℕ) (st : Standing) → standing_at k n ≡ Some st → IsSettled st

-- a cause is shown for a seat that waits
abbrev pub ShowsWaiting : Standings → Shows → Type 0
ShowsWaiting k Nothing = ⊥
ShowsWaiting k (OfSeat n c) = waits_own k n ≡ true
ShowsWaiting k (OfInstance instance c) = (n : ℕ) × (waits k instance n ≡ true)

-- what calls showed of a seat, by what stands for it
abbrev pub shown_in : Option Standing → Option Cause
shown_in None = None
shown_in (Some st) = st.shown

-- ---- a call that halts an instance

-- the seat of the instance is taken off those that wait, and all else is as before
pub record IsUnlisted (old new : Standings) (instance seat : ℕ) : Type 0 where
  pub instances : new.instances ≡ old.instances
  pub standings : new.standings ≡ old.standings
  pub at : waits new instance seat ≡ false
  pub same : (n : ℕ) → seat ≢ n → waits new instance n ≡ waits old instance n
  pub others : (other n : ℕ) → instance ≢ other → waits new other n ≡ waits old other n

-- nothing was done for a seat, or it waited, and this stands for it now
abbrev pub HaltedAt : Bool → Option Standing → Bool → Option Standing → Standing → Type 0
HaltedAt waited was waits_now is st = ((waits_now ≡ waited) × (is ≡ was)) ⊎ ((waited ≡ true) × (waits_now ≡ false) × (is ≡ Some st))

-- this was done for some seats of the instance that waited
pub record IsHalting (first now : Standings) (instance : ℕ) (st : Standing) : Type 0 where
  pub instances : now.instances ≡ first.instances
  pub other : (other n : ℕ) → instance ≢ other → waits now other n ≡ waits first other n
  pub own : (n : ℕ) → HaltedAt (waits first instance n) (standing_at first n) (waits now instance n) (standing_at now n) st

-- ---- an opening

-- the seat of the instance is put among those that wait, and all else is as before
pub record IsListed (old new : Standings) (instance seat : ℕ) : Type 0 where
  pub standings : new.standings ≡ old.standings
  pub at : waits new instance seat ≡ true
  pub other : (m n : ℕ) → (waits new m n ≡ waits old m n) ⊎ ((m ≡ instance) × (n ≡ seat))
