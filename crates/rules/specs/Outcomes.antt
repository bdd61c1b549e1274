-- What a call comes to in the world.
use Rattle.call_arguments.specs.refusals.Outcomes as outcomes
use Rattle.world_state.specs.Worlds.{Effect}

-- the first refusal, or the answer and the effects in their order
abbrev pub Outcome : Type 0
Outcome = outcomes.Outcome Effect
