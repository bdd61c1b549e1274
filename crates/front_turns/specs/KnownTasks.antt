-- What is known of a delivery's task.
use Rattle.std.specs.Prelude.{◌<◌, length}
use Rattle.std.specs.List.{AllByRecursion}
use Rattle.delivery_tasks.specs.delivery_turns.Functions.{FunctionCall}
use Rattle.delivery_tasks.specs.delivery_turns.Tasks.{Task, do_all, refuse, run, serve}
use Rattle.fair_laws.specs.Accounts.{AreStoredEffects}
use Rattle.jessie_interpreter.specs.jessie_semantics.Keeping.{AllHave}
use Rattle.delivery_tasks.specs.host_data.Tree.{Tree, object}
use Rattle.delivery_tasks.specs.host_data.declared.data.Obj.{Obj}
use Rattle.std.specs.Prelude.{List}
use Rattle.contract_powers.specs.world_state.Known.{IsHanded, IsKnownTo}
use Rattle.contract_powers.specs.world_state.Worlds.{State}

-- the target of a call and its arguments can be handed out
pub record IsServed (w : State) (o : Obj) (args : List Tree) : Type 0 where
  pub target : IsHanded w (object o)
  pub arguments : AllByRecursion (IsHanded w) args

-- an instance whose function is called was made, and may hold what the function is called with
pub record IsCallable (w : State) (c : FunctionCall) : Type 0 where
  pub made : c.instance < length w.tables.instances
  pub arguments : AllHave (IsKnownTo w c.instance) c.arguments

abbrev pub IsThere : State → Task → Type 0
IsThere w (refuse r) = Unit {0}
IsThere w (do_all es) = AreStoredEffects es
IsThere w (serve o method args) = IsServed w o args
IsThere w (run c) = IsCallable w c
