-- When a host's turn is a step of what makes turns fair, and when turns stay so.
use Rattle.std.specs.Prelude.{ℕ, List, [], ◌∷◌, ◌++◌}
use Rattle.delivery_laws.specs.delivery_turns.Hosts.{HostState, Step}
use Rattle.fair_rows.specs.SoFar.{nothing_so_far}
use Rattle.fair_rows.specs.Steps.{IsStep, Leaves, so_far_after}
use Rattle.fair_rows.specs.Strict.{AreStrict}
use Rattle.fair_rows.specs.Turns.{AreFair}
use Rattle.fair_laws.specs.Views.{IsSteady, world_of}
use Rattle.delivery_laws.specs.turn_records.Printed.{printed}
use Rattle.fair_rows.specs.turn_rows.Editions.{written}
use Rattle.fair_rows.specs.turn_rows.Turns.{Turn}
use Rattle.delivery_laws.specs.world_laws.First.{first_world}

-- the turn's record, as it is printed, leads from the host's world to that of the host after it; which is
-- steady, as that was
pub record IsTurnStep (s : HostState) (step : Step) : Type 0 where
  pub is_step : IsStep (world_of s) (printed step.turn) (world_of step.next)
  pub steady : IsSteady step.next.world

-- the turns with this one are fair, and leave the host's world after it, which is steady
pub record StaysFair (ts : List Turn) (step : Step) : Type 0 where
  pub fair : AreFair written (ts ++ printed step.turn ∷ [])
  pub leaves : Leaves (so_far_after (ts ++ printed step.turn ∷ []) nothing_so_far) (world_of step.next)
  pub steady : IsSteady step.next.world

-- the turns with this one are strict
abbrev pub StaysStrict : List Turn → Step → Type 0
StaysStrict ts step = AreStrict (ts ++ printed step.turn ∷ [])

-- a host of which no turn was told yet
abbrev pub new_host : ℕ → HostState
new_host meter = record { meter = meter; world = first_world; turns = 0 }
