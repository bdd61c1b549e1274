-- That the rules of the host's own objects are good.
use Rattle.std.specs.Prelude.{ℕ, List, None}
use Rattle.world_laws.specs.host_data.Tree.{Tree}
use Rattle.world_laws.specs.host_data.declared.data.Obj.{Obj}
use Rattle.world_laws.specs.host_data.declared.data.ObjKind.{ObjKind}
use Rattle.world_laws.specs.world_state.Worlds.{State}
use Rattle.rules.specs.Obligations.{CanCall, IsGoodOutcome}
use Rattle.rules.specs.Outcomes.{Outcome}

abbrev pub numbered : ObjKind → ℕ → Obj
numbered kind n = record { kind = kind; number = n }

-- what each method of each object of the kind owes, wherever the call may be made
abbrev pub AreGoodRules : ObjKind → (State → ℕ → List ℕ → List Tree → Outcome) → Type 0
AreGoodRules kind rules =
    (w : State) (n : ℕ) (m : List ℕ) (args : List Tree) →
    CanCall w None (numbered kind n) args → IsGoodOutcome w None (numbered kind n) m args (rules w n m args)

-- what a method owes of each object of the kind, wherever the call may be made
abbrev pub IsGoodMethod : ObjKind → List ℕ → (State → ℕ → List Tree → Outcome) → Type 0
IsGoodMethod kind method rule =
    (w : State) (n : ℕ) (args : List Tree) →
    CanCall w None (numbered kind n) args → IsGoodOutcome w None (numbered kind n) method args (rule w n args)

-- what each call owes that a party makes or that was sent, whatever its target, method and arguments
abbrev pub AreGoodServices : (State → Obj → List ℕ → List Tree → Outcome) → Type 0
AreGoodServices serve =
    (w : State) (o : Obj) (m : List ℕ) (args : List Tree) →
    CanCall w None o args → IsGoodOutcome w None o m args (serve w o m args)
