-- A machine that keeps deliveries in a queue and makes turns of them: what it makes of lines, and in which order.
use Rattle.std.specs.Prelude.{ℕ, zero, suc, List, [], ◌∷◌, ◌++◌, Option, drop, length}
use Rattle.std.specs.List.{flat_map}
use Rattle.std.specs.Option.{option_map_or}
use Rattle.message_lines.specs.Meanings.{Meaning, blank, delivered, run}
use Rattle.message_lines.specs.turn_records.Deliveries.{Delivery}

-- What waits in a state, and the state once a line's delivery waits too; the step that a state makes, if it makes one,
-- the delivery that it is of, and the state after it.
pub record Machine (S T : Type 0) : Type 0 where
  pub waiting : S → List Delivery
  pub arrive : Delivery → S → S
  pub step : S → Option T
  pub of : T → Delivery
  pub next : T → S

-- a state, and the step that it made
pub record Made (S T : Type 0) : Type 0 where
  pub before : S
  pub step : T

-- steps one after another, and the state after them
pub record MachineRun (S T : Type 0) : Type 0 where
  pub turns : List (Made S T)
  pub end : S

abbrev pub no_turn : {S T : Type 0} → S → MachineRun S T
no_turn s = record { turns = []; end = s }

abbrev pub turn_then : {S T : Type 0} → S → T → MachineRun S T → MachineRun S T
turn_then s step r = record {
  turns = record { before = s; step = step } ∷ r.turns;
  end = r.end;
}

abbrev pub run_then : {S T : Type 0} → MachineRun S T → MachineRun S T → MachineRun S T
run_then a b = record { turns = a.turns ++ b.turns; end = b.end }

module _ {S T : Type 0} (m : Machine S T) where
  -- at most n steps, as long as one is made
  unfoldable pub drains : ℕ → S → MachineRun S T
  drains zero s = no_turn s
  drains (suc n) s = option_map_or (λ (t : T). turn_then s t (drains n (m.next t))) (m.step s) (no_turn s)

  -- a line: its delivery waits, or at most so many steps are made
  abbrev pub by_line : S → Meaning → MachineRun S T
  by_line s blank = no_turn s
  by_line s (delivered d) = no_turn (m.arrive d s)
  by_line s (run n) = drains n s

  -- lines, one after another
  abbrev pub by_lines : S → List Meaning → MachineRun S T
  by_lines s [] = no_turn s
  by_lines s (l ∷ ls) = run_then (by_line s l) (by_lines (by_line s l).end ls)

  -- the delivery that a turn is of
  abbrev pub delivery_of : Made S T → Delivery
  delivery_of t = m.of t.step

  -- what a turn brought: it stands behind all that waited behind the turn's delivery
  abbrev pub brought_by : Made S T → List Delivery
  brought_by t = drop (length (drop 1 (m.waiting t.before))) (m.waiting (m.next t.step))

  abbrev pub all_brought : List (Made S T) → List Delivery
  all_brought ts = flat_map brought_by ts
