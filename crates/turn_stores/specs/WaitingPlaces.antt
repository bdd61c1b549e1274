-- What a timer's map of entries says: each entry's key has its time and its number, in the order of making.
use Rattle.std.specs.Prelude.{ℕ, ◌<◌, ◌≡◌, List, [], ◌∷◌, Option, None, Some, cond, map, nat_lt, true}
use Rattle.std.specs.declared.cmp.Ordering.{Ordering}
use Rattle.std.specs.Ordering.{is_le, nat_cmp, ordering_then}
use Rattle.std.specs.List.{AllByRecursion}
use Rattle.std.specs.Map.{keys_of}
use Rattle.turn_stores.specs.UndoTurns.{Turn}
use Rattle.turn_stores.specs.declared.timer.DueKey.{DueKey}
use Rattle.turn_stores.specs.declared.timer.Reading.{Reading}
use Rattle.turn_stores.specs.Schedules.{Schedule, Times}

-- by time, then by order of making
abbrev pub due_cmp : DueKey → DueKey → Ordering
due_cmp x y = ordering_then (nat_cmp x.time y.time) (nat_cmp x.number y.number)

module _ {E : Type 0} where
  -- the entries with their times
  abbrev pub waiting_of : List (DueKey × E) → List (ℕ × E)
  waiting_of es = map (λ e. (e.0.time, e.1)) es

  abbrev pub schedule_of : Reading → List (DueKey × E) → Schedule E
  schedule_of r es = record { time = r.time; made = r.made; waiting = waiting_of es }

  abbrev pub times_view : Reading → Reading → Turn DueKey E → Times E
  times_view start now entries = record { start = schedule_of start entries.start; now = schedule_of now entries.now }

  -- each entry's number is below so many
  abbrev pub AreNumbered : ℕ → List (DueKey × E) → Type 0
  AreNumbered made es = AllByRecursion (λ k. k.number < made) (keys_of es)

  -- no entry is before the key
  abbrev pub AreFrom : DueKey → List (DueKey × E) → Type 0
  AreFrom from es = AllByRecursion (λ k. is_le (due_cmp from k) ≡ true) (keys_of es)

  -- the key of the first entry, if it is due at t
  abbrev pub due_key : ℕ → List (DueKey × E) → Option DueKey
  due_key t [] = None
  due_key t (e ∷ es) = cond (nat_lt t e.0.time) None (Some e.0)

-- The entries of now, and those of the turn's start, have numbers below how many were made, and no entry
-- of now is before `from`.
pub record AreKept {E : Type 0} (start now : Reading) (entries : Turn DueKey E) (from : DueKey) : Type 0 where
  pub numbered : AreNumbered now.made entries.now
  pub were_numbered : AreNumbered start.made entries.start
  pub first : AreFrom from entries.now
