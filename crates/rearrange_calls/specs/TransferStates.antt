-- The states that transfers are planned from.
use Rattle.std.specs.Prelude.{◌≡◌, ℕ, List}
use Rattle.rearrange.specs.Seats.{state_of}
use Rattle.rules.specs.Rearranging.{states_for}
use Rattle.rules.specs.proposals.declared.plans.SeatState.{SeatState}
use Rattle.rules.specs.world_state.Worlds.{State}

-- they tell of each seat what the rule's tell, which has a state for each time that a seat is named
abbrev pub AreStatesFor : State → List ℕ → List SeatState → Type 0
AreStatesFor w seats states = state_of states ≡ state_of (states_for w seats)
