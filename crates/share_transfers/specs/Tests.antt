-- What one transfer is tested for, and what a plan is.
use Rattle.std.specs.Prelude.{ℕ, List, Ok, Result}
use Rattle.rearrange.specs.TestedPlans.{can_gain, can_lose, keeps}
use Rattle.call_arguments.specs.proposals.declared.allocations.Share.{Share}
use Rattle.call_arguments.specs.proposals.declared.plans.SeatState.{SeatState}
use Rattle.call_arguments.specs.proposals.declared.plans.Touched.{Touched}
use Rattle.call_arguments.specs.proposals.declared.plans.Transfer.{Transfer}
use Rattle.refusals.specs.Outcomes.{◌>>◌}
use Rattle.refusals.specs.declared.codes.Refusal.{Refusal}

-- a transfer can be worked: what it takes, then what it gives
abbrev pub can_move : (ℕ → List Share) → Transfer → Result (Unit {0}) Refusal
can_move had t = can_lose had t >> can_gain had t

-- a plan, where it passes its tests
abbrev pub kept_plan : List SeatState → List Touched → Result (List Touched) Refusal
kept_plan states touched = keeps states touched >> Ok touched
