-- What an evaluation came to, and the values of the state variables after it.
use Rattle.std.specs.Prelude.{ℕ, zero, suc, List, [], ◌∷◌, Option, None}
use Rattle.jessie_machine.specs.host_data.Tree.{Tree}
use Rattle.jessie_machine.specs.host_data.View.{tree}
use Rattle.jessie_machine.specs.jessie_semantics.Play.{Play, Ends, Spends, returned, threw}
use Rattle.jessie_machine.specs.Machine.{or_else, head_or, tail_of}
use Rattle.jessie_interpreter.specs.declared.evaluation.Outcome.{Outcome}
use Rattle.jessie_interpreter.specs.declared.evaluation.Outcome.TheVariants.{Returned, Threw, Spent}

-- how the evaluation ends, with these values of the state variables
abbrev pub outcome : Outcome → List Tree → Play
outcome (Returned d) values = Ends (returned (tree d)) values
outcome (Threw d) values = Ends (threw (tree d)) values
outcome Spent values = Spends

-- the values, each as it was given anew, if it was
abbrev pub kept : List Tree → List (Option Tree) → List Tree
kept [] cs = []
kept (v ∷ vs) cs = or_else (head_or None cs) v ∷ kept vs (tail_of cs)

-- the values with another at a place, if there is one
abbrev pub kept_at : List Tree → ℕ → Option Tree → List Tree
kept_at [] i c = []
kept_at (v ∷ vs) zero c = or_else c v ∷ vs
kept_at (v ∷ vs) (suc i) c = v ∷ kept_at vs i c
