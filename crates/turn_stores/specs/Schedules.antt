-- What contracts see of a timer that can go back: what it is set to and what waits, at the turn's start and now.
use Rattle.std.specs.Prelude.{ℕ, ◌+◌, List, [], ◌∷◌, ◌++◌, Option, None, Some, cond, drop, map, nat_lt, not}
use Rattle.std.specs.List.{filter}

-- What the timer is set to, how many entries were made, and the entries that wait, each with its time: the
-- first that is due comes first.
pub record Schedule (E : Type 0) : Type 0 where
  pub time : ℕ
  pub made : ℕ
  pub waiting : List (ℕ × E)

pub record Times (E : Type 0) : Type 0 where
  pub start : Schedule E
  pub now : Schedule E

module _ {E : Type 0} where
  -- the times of what waits
  abbrev pub times_of : List (ℕ × E) → List ℕ
  times_of ws = map (λ w. w.0) ws

  -- those that are due at t, and those that are due later
  abbrev pub due_by : ℕ → List (ℕ × E) → List (ℕ × E)
  due_by t ws = filter (λ w. not (nat_lt t w.0)) ws

  abbrev pub due_after : ℕ → List (ℕ × E) → List (ℕ × E)
  due_after t ws = filter (λ w. nat_lt t w.0) ws

  -- one more entry waits for t, behind all that are due by then
  abbrev pub woken_at : ℕ → E → Schedule E → Schedule E
  woken_at t e s = record s { made = s.made + 1; waiting = due_by t s.waiting ++ (t, e) ∷ due_after t s.waiting }

  -- the entry in front, if it is due at t
  abbrev pub in_front : ℕ → List (ℕ × E) → Option E
  in_front t [] = None
  in_front t (w ∷ ws) = cond (nat_lt t w.0) None (Some w.1)

  -- the first entry that is due
  abbrev pub first_due : Schedule E → Option E
  first_due s = in_front s.time s.waiting

  -- the first entry is taken out
  abbrev pub without_first : Schedule E → Schedule E
  without_first s = record s { waiting = drop 1 s.waiting }
