-- What a contract's call may name.
use Rattle.std.specs.Prelude.{ℕ, List}
use Rattle.rules.specs.call_arguments.Arguments.{arg}
use Rattle.host_data.specs.Tree.{Tree}
use Rattle.rules.specs.world_state.Known.{IsKnownTo}
use Rattle.rules.specs.world_state.Worlds.{State}

-- each argument is data that the instance that calls may hold: all that it names was made
pub record AreKnown (w : State) (args : List Tree) : Type 0 where
  pub caller : ℕ
  pub each : (place : ℕ) → IsKnownTo w caller (arg place args)
