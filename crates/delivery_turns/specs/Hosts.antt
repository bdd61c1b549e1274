-- A host between its calls, and what a step makes of it: the turn of the delivery in front, with its record.
use Rattle.std.specs.Prelude.{ℕ, ◌+◌, List, [], ◌∷◌, map, Option, Some, None}
use Rattle.world_laws.specs.rights_model.Totals.{brands_of}
use Rattle.world_laws.specs.rights_model.declared.Movement.{Movement}
use Rattle.world_laws.specs.rights_model.declared.Sum.{Sum}
use Rattle.world_laws.specs.Tables.{sum_of}
use Rattle.rules.specs.Zoe.{TextReader}
use Rattle.world_laws.specs.turn_records.Deliveries.{Delivery}
use Rattle.world_laws.specs.turn_records.Events.{moves_in}
use Rattle.world_laws.specs.turn_records.Turns.{Turn}
use Rattle.world_laws.specs.world_state.Rights.{Rights}
use Rattle.world_laws.specs.world_state.Worlds.{State, after, after_all, arrive, behind}
use Rattle.delivery_turns.specs.Turns.{DeliveryTurn, delivery_turn}

-- ---- sums

-- what there is of each brand that movements name, by number
abbrev pub sums_of : Rights → List Movement → List Sum
sums_of r ms = map (sum_of r) (brands_of ms)

-- ---- hosts

-- the most that a function may cost; the world, with all that waits; and how many turns were run
pub record HostState : Type 0 where
  pub meter : ℕ
  pub world : State
  pub turns : ℕ

-- a line that was read is appended
abbrev pub with_line : Delivery → HostState → HostState
with_line d s = record s { world = after s.world (arrive d) }

-- the log is told, and the next turn begins with nothing
abbrev pub untold : State → State
untold w = record w { log = [] }

-- ---- a step

abbrev pub world_after : State → DeliveryTurn → State
world_after w t = after_all (behind w) t.effects

abbrev pub told_turn : ℕ → Delivery → DeliveryTurn → State → Turn
told_turn number d t w = record {
  number = number;
  delivery = d;
  reading = t.reading;
  answer = t.answer;
  events = w.log;
  sums = sums_of w.rights (moves_in w.log);
}

-- the host after a turn, and the turn's record
pub record Step : Type 0 where
  pub next : HostState
  pub turn : Turn

abbrev pub step_after : HostState → Delivery → DeliveryTurn → Step
step_after s d t = record {
  next = record s { world = untold (world_after s.world t); turns = s.turns + 1 };
  turn = told_turn (s.turns + 1) d t (world_after s.world t);
}

abbrev pub step_from : TextReader → HostState → List Delivery → Option Step
step_from read s [] = None
step_from read s (d ∷ ds) =
    Some (step_after s d (delivery_turn read s.meter (behind s.world) d))

-- the turn of the delivery in front, where one waits
unfoldable pub step_of : TextReader → HostState → Option Step
step_of read s = step_from read s s.world.waiting
