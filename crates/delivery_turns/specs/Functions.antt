-- What the function of an instance comes to that is run over the host: what it asks is answered from the world so
-- far (Zoe). What a spent meter leaves stands in Tasks.
use Rattle.std.specs.Prelude.{ℕ, List, [], ◌++◌}
use Rattle.world_laws.specs.actors.Tables.{instance_at}
use Rattle.rules.specs.jessie_semantics.Play.{Asks, Ending, Ends, Play, Spends}
use Rattle.rules.specs.jessie_semantics.Rules.{play}
use Rattle.rules.specs.jessie_grammar.Syntax.{routines, variable_names}
use Rattle.rules.specs.jessie_grammar.declared.syntax.Module.{Module}
use Rattle.world_laws.specs.host_data.Tree.{Tree}
use Rattle.world_laws.specs.world_state.Known.{module_of}
use Rattle.world_laws.specs.world_state.Worlds.{Effect, State, after_all}
use Rattle.delivery_turns.specs.HostCalls.{call_effects, call_reply}

-- how a function ends, with the new values of the state variables and the effects of its calls in their order; or
-- its meter was spent
pub data Run : Type 0 where
  ended : Ending → List Tree → List Effect → Run
  ran_out : Run

-- the run with these effects before its own
abbrev pub run_after : List Effect → Run → Run
run_after es (ended e values fs) = ended e values (es ++ fs)
run_after es ran_out = ran_out

-- the play over the world: what it asks is answered from the world so far
abbrev pub run : State → ℕ → Play → Run
run w i (Ends e values) = ended e values []
run w i Spends = ran_out
run w i (Asks c go) =
    run_after (call_effects w i c) (run (after_all w (call_effects w i c)) i (go (call_reply w i c)))

-- a function of an instance that is called
pub record FunctionCall : Type 0 where
  pub instance : ℕ
  pub function : List ℕ
  pub arguments : List Tree

-- what the functions of a module come to, whatever the host answers
abbrev pub module_play : Module → List ℕ → List Tree → List Tree → ℕ → Play
module_play m function args values meter =
    play (routines m) (variable_names m) function args values meter

-- over the state values that the instance keeps
unfoldable pub function_run : ℕ → State → FunctionCall → Run
function_run meter w c =
    let values = (instance_at w.tables.instances c.instance).state in
    let m = module_of w.tables c.instance in
    run w c.instance (module_play m c.function c.arguments values meter)
