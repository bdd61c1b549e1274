-- What the rows of this host's turns keep to beyond their form. Nothing of it is asked of a journal.
use Rattle.std.specs.Prelude.{◌≡◌, ◌≤◌, ℕ, Bool, true, false, ◌++◌, length, codes}
use Rattle.std.specs.List.{AllByRecursion}
use Rattle.serde_json.specs.Data as json
use Rattle.turn_rows.specs.Form.{IsAnswerOf, MayStand}
use Rattle.turn_rows.specs.Kinds as kinds
use Rattle.turn_rows.specs.Kinds.{Kind}
use Rattle.turn_rows.specs.Turns.{Answer, Event, Turn, ok, opened, refused, spent}

-- the time is set, or would go backwards
abbrev pub IsHostTickAnswer : Answer → Type 0
IsHostTickAnswer (ok d) = d ≡ json.null
IsHostTickAnswer (refused code shown) = code ≡ codes "Backwards"
IsHostTickAnswer _ = ⊥

-- a tick is refused for that reason alone
abbrev pub IsHostAnswerOf : Kind → Answer → Type 0
IsHostAnswerOf kinds.tick a = IsHostTickAnswer a
IsHostAnswerOf kind a = IsAnswerOf kind a

-- a turn in which a contract's function was run, and didn't spend its meter
abbrev pub runs_function : Kind → Answer → Bool
runs_function _ (spent meter) = false
runs_function kinds.facet _ = true
runs_function kinds.handler _ = true
runs_function kinds.wake _ = true
runs_function kinds.notify _ = true
runs_function kinds.start _ = true
runs_function _ _ = false

-- the most keywords of give and want together, and so of a seat
abbrev pub most_keywords : ℕ
most_keywords = 64

abbrev pub HasFewKeywords : Event → Type 0
HasFewKeywords (opened o) = length (o.give ++ o.want) ≤ most_keywords
HasFewKeywords _ = Unit {0}

-- calls of the host stand only where a function was run
pub record HasHostForm (t : Turn) : Type 0 where
  pub answered : IsHostAnswerOf t.kind t.answer
  pub calls : AllByRecursion (MayStand (runs_function t.kind t.answer)) t.events
  pub few : AllByRecursion HasFewKeywords t.events
