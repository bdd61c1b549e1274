-- What the rule of each call owes, as one record; and what it may count on.
use Rattle.std.specs.Prelude.{◌≡◌, ◌≤◌, ◌<◌, ℕ, List, length, Option, IfOk, IfSome}
use Rattle.std.specs.List.{AllByRecursion}
use Rattle.call_arguments.specs.Arguments.{arg}
use Rattle.call_arguments.specs.host_data.Tree.{Tree}
use Rattle.call_arguments.specs.host_data.declared.data.Obj.{Obj}
use Rattle.world_state.specs.Good.{AreGood, IsGoodWorld}
use Rattle.world_state.specs.Known.{IsFormed, ObjectKnown}
use Rattle.world_state.specs.Worlds.{Effect, State, after_all}
use Rattle.rules.specs.Acts.{MayAct}
use Rattle.rules.specs.Licence.{AreLicensed, IsStored}
use Rattle.rules.specs.Outcomes.{Outcome}
use Rattle.rules.specs.Traces.{calls_in, departures_by, departures_in, movements_in, openings_by, openings_in}

-- ---- what is owed

-- The effects are good, each after those before it. The answer names only what the caller may hold then, is in
-- order and not too deep. Seats are left as the call's target and method say, and opened likewise. The effects are
-- such as calls have, on what is the caller's. Movements take from and go to where they may, and each goes to or
-- comes from where things are kept; and at most one function more is to be called.
pub record IsRule (w : State) (caller : Option ℕ) (o : Obj) (m : List ℕ) (args : List Tree) (answer : Tree)
    (effects : List Effect) : Type 0 where
  pub good : AreGood w effects
  pub known : IsFormed (after_all w effects) caller answer
  pub leaves : departures_in effects ≡ departures_by w o m
  pub opens : openings_in effects ≡ openings_by o m
  pub acts : AllByRecursion (MayAct w caller o m) effects
  pub licensed : AreLicensed w caller o m args (movements_in effects)
  pub stored : AllByRecursion IsStored (movements_in effects)
  pub calls : calls_in effects ≤ 1

-- an outcome that isn't a refusal is so
abbrev pub IsGoodOutcome : State → Option ℕ → Obj → List ℕ → List Tree → Outcome → Type 0
IsGoodOutcome w caller o m args outcome = IfOk outcome (λ d. IsRule w caller o m args d.0 d.1)

-- ---- what a rule may count on

-- a call may be made: the world is good, an instance that calls was made, and the caller may name the target and all
-- that the arguments name
pub record CanCall (w : State) (caller : Option ℕ) (o : Obj) (args : List Tree) : Type 0 where
  pub good : IsGoodWorld w
  pub hosted : IfSome caller (λ i. i < length w.tables.instances)
  pub target : ObjectKnown caller w o
  pub arguments : (place : ℕ) → IsFormed w caller (arg place args)
