-- What the evaluator's parts promise: how far the play has been carried out, and what is left of it.
use Rattle.std.specs.Prelude.{◌≡◌, List, [], ◌∷◌}
use Rattle.host_data.specs.Tree.{Tree}
use Rattle.jessie_semantics.specs.Play.{Exchange, Play, Ends, Spends, Asks, Answered}
use Rattle.jessie_semantics.specs.Actions.{State, went, fails, Then, Action}

-- from p by these exchanges to q
abbrev pub Path : Play → List Exchange → Play → Type 0
Path p [] q = p ≡ q
Path (Ends e values) (x ∷ xs) q = ⊥
Path Spends (x ∷ xs) q = ⊥
Path (Asks c go) (x ∷ xs) q = (c ≡ x.call) × Path (go x.reply) xs q

-- the host answered what p asks, and q is left
pub record Leads {W : Type 0} (step : W → Exchange → W → Type 0) (old new : W) (p q : Play) : Type 0 where
  pub since : List Exchange
  pub answered : Answered step old since new
  pub path : Path p since q

pub data Halt : Type 0 where
  throws : Tree → Halt
  spends : Halt
  unfinished : Halt

pub data Come (A : Type 0) : Type 0 where
  came : A → Come A
  halted : Halt → Come A

abbrev pub resume : {A : Type 0} → Then A → Come A → State → Play
resume k (came a) s = k (went a) s
resume k (halted (throws t)) s = k (fails t) s
resume k (halted spends) s = Spends
resume k (halted unfinished) s = Spends

abbrev pub IsFinished : {A : Type 0} → Come A → Type 0
IsFinished (came a) = Unit {0}
IsFinished (halted (throws t)) = Unit {0}
IsFinished (halted spends) = Unit {0}
IsFinished (halted unfinished) = ⊥

-- the action was carried out from one state, came to c and left the other
pub record Runs {W A : Type 0} (step : W → Exchange → W → Type 0) (old new : W) (a : Action A) (from : State) (c : Come A) (to : State) : Type 0 where
  pub goes : IsFinished c → (k : Then A) → Leads step old new (a from k) (resume k c to)

-- so far as it was carried out, another action is left of it
pub record Reaches {W A : Type 0} (step : W → Exchange → W → Type 0) (old new : W) (a : Action A) (from : State) (b : Action A) (to : State) : Type 0 where
  pub goes : (k : Then A) → Leads step old new (a from k) (b to k)

-- the same as Runs of an action that asks nothing
pub record Computes {A : Type 0} (a : Action A) (from : State) (c : Come A) (to : State) : Type 0 where
  pub does : IsFinished c → (k : Then A) → a from k ≡ resume k c to
