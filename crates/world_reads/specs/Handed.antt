-- What a call may name.
use Rattle.std.specs.Prelude.{ℕ, List}
use Rattle.rules.specs.call_arguments.Arguments.{arg}
use Rattle.refusals.specs.host_data.Tree.{Tree}
use Rattle.rules.specs.world_state.Known.{IsHanded}
use Rattle.rules.specs.world_state.Worlds.{State}

-- each argument can be handed to anyone: all that it names was made
pub record AreHanded (w : State) (args : List Tree) : Type 0 where
  pub each : (place : ℕ) → IsHanded w (arg place args)
