-- What a function of an instance came to that was run over the world of a turn.
use Rattle.std.specs.Prelude.{◌≡◌, ℕ, List, [], ◌∷◌}
use Rattle.contract_powers.specs.world_effects.CarriedEffects.{AreCarried}
use Rattle.delivery_tasks.specs.delivery_turns.Functions.{FunctionCall, function_run, ran_out, run, run_after}
use Rattle.delivery_tasks.specs.delivery_turns.Tasks.{answer_of_ending, run_work}
use Rattle.front_turns.specs.FrontTurns.{IsDone}
use Rattle.front_turns.specs.declared.function_runs.Ran.{Ran}
use Rattle.front_turns.specs.declared.function_runs.Ran.TheVariants.{Ended, Spent}
use Rattle.contract_powers.specs.host_world.Worlds.{world_of}
use Rattle.contract_powers.specs.host_world.declared.World.{World}
use Rattle.jessie_interpreter.specs.jessie_semantics.Play.{Asks, Ending, Ends, Play, Spends}
use Rattle.delivery_tasks.specs.host_data.Tree.{Tree}
use Rattle.contract_powers.specs.turn_records.Views.{answer_view}
use Rattle.contract_powers.specs.turn_records.declared.events.Answer.{Answer}
use Rattle.contract_powers.specs.world_state.Good.{CanKeep}
use Rattle.contract_powers.specs.world_state.Worlds.{Effect, State, keep_state}

-- what a run comes to that ends, its state kept; or its meter was spent, and what it did by then is to be undone
abbrev pub CameTo : ℕ → FunctionCall → World → World → Ran → Type 0
CameTo meter c old new (Ended answer) =
    IsDone old new answer (run_work meter (world_of old) c.instance (function_run meter (world_of old) c))
CameTo meter c old new Spent = function_run meter (world_of old) c ≡ ran_out

-- ---- on the way there

-- a play was carried out over the world, so far as this is left of it
pub record WentOn (i : ℕ) (p : Play) (old new : World) (left : Play) : Type 0 where
  pub effects : List Effect
  pub carried : AreCarried old new effects
  pub is : run (world_of old) i p ≡ run_after effects (run (world_of new) i left)

-- the new values of the state can be kept, where there are any
abbrev pub CanEnd : State → ℕ → Play → Type 0
CanEnd w i (Ends e values) = CanKeep w i values
CanEnd w i Spends = Unit {0}
CanEnd w i (Asks c go) = Unit {0}

-- they are kept, and this is answered
pub record WasKept (old new : World) (i : ℕ) (e : Ending) (values : List Tree) (a : Answer) : Type 0 where
  pub answer : answer_view a ≡ answer_of_ending e
  pub carried : AreCarried old new (keep_state i values ∷ [])

abbrev pub HasEnded : World → World → ℕ → Play → Ran → Type 0
HasEnded old new i (Ends e values) (Ended answer) = WasKept old new i e values answer
HasEnded old new i (Ends e values) Spent = ⊥
HasEnded old new i Spends (Ended answer) = ⊥
HasEnded old new i Spends Spent = Unit {0}
HasEnded old new i (Asks c go) ran = ⊥
