-- That the rules of calls of an instance's functions are good.
use Rattle.std.specs.Prelude.{ℕ, List, Some}
use Rattle.world_laws.specs.host_data.Tree.{Tree}
use Rattle.world_laws.specs.host_data.declared.data.Obj.{Obj}
use Rattle.world_laws.specs.host_data.declared.data.ObjKind.{ObjKind}
use Rattle.world_laws.specs.world_state.Worlds.{State}
use Rattle.rules.specs.Obligations.{CanCall, IsGoodOutcome}
use Rattle.rules.specs.Outcomes.{Outcome}

abbrev pub numbered : ObjKind → ℕ → Obj
numbered kind n = record { kind = kind; number = n }

-- what a call of a method owes, of an object of the kind that the instance may name
abbrev pub IsGoodCall : ObjKind → List ℕ → (State → ℕ → List Tree → Outcome) → Type 0
IsGoodCall kind m rule =
    (w : State) (i n : ℕ) (args : List Tree) →
    CanCall w (Some i) (numbered kind n) args →
    IsGoodOutcome w (Some i) (numbered kind n) m args (rule w n args)

-- what each call owes that a function of an instance makes, whatever its target, method and arguments
abbrev pub AreGoodContractCalls : (State → Obj → List ℕ → List Tree → Outcome) → Type 0
AreGoodContractCalls serve =
    (w : State) (i : ℕ) (o : Obj) (m : List ℕ) (args : List Tree) →
    CanCall w (Some i) o args → IsGoodOutcome w (Some i) o m args (serve w o m args)
