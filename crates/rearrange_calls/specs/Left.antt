-- What is left of a reallocation once the seats are read.
use Rattle.std.specs.Prelude.{ℕ, List, Ok}
use Rattle.rules.specs.Outcomes.{Outcome}
use Rattle.host_data.specs.Tree.{null}
use Rattle.rearrange.specs.TestedPlans.{staged_changes}
use Rattle.rules.specs.proposals.declared.plans.Touched.{Touched}
use Rattle.refusals.specs.Outcomes.{◌>>=◌, ◌>>◌}
use Rattle.rules.specs.Rearranging.{carried_out}
use Rattle.rules.specs.States.{all_states, has_room}
use Rattle.rules.specs.world_state.Worlds.{State}

-- what touched seats come to is done, where there is room
unfoldable pub carried : State → List Touched → Outcome
carried w touched = do
  has_room w touched 0
  Ok (null, carried_out touched)

-- the seats take over what is staged of them
unfoldable pub reallocated : State → ℕ → List ℕ → Outcome
reallocated w i seats = do
  touched ← staged_changes i (all_states w) seats
  carried w touched
