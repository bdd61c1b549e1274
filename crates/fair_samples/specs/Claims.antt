-- What is shown of the sentences of fairness.
use Rattle.std.specs.Prelude.{◌≡◌, ◌≢◌, ℕ, List, [], ◌∷◌}
use Rattle.fair_rows.specs.amount_math.Content.{nothing}
use Rattle.fair_rows.specs.rights_model.Table.{holds}
use Rattle.fair_rows.specs.rights_model.declared.Holder.TheVariants.{Hand}
use Rattle.fair_rows.specs.turn_rows.Editions.{written}
use Rattle.fair_rows.specs.turn_rows.Turns.{Turn}
use Rattle.fair_rows.specs.turn_rows.declared.editions.Edition.{Edition}
use Rattle.fair_rows.specs.SoFar.{SoFar, nothing_so_far, with_turn}
use Rattle.fair_rows.specs.Strict.{AreStrict}
use Rattle.fair_rows.specs.Turns.{AreFair}
use Rattle.fair_samples.specs.Sentences.{Meets, Sentence, movements_are_defined, tables_balance}

-- as turns of a text of the edition the list meets all sentences but this one, and so isn't fair
pub record BreaksAlone (d : Edition) (x : Sentence) (ts : List Turn) : Type 0 where
  pub others : (y : Sentence) → y ≢ x → Meets d y ts
  pub breaks : ¬ Meets d x ts
  pub unfair : ¬ AreFair d ts

-- the list is fair, and isn't strict
pub record IsFairAlone (ts : List Turn) : Type 0 where
  pub fair : AreFair written ts
  pub lax : ¬ AreStrict ts

-- after each turn the hand is empty
abbrev pub LeaveNothing : SoFar → List Turn → Type 0
LeaveNothing s [] = Unit {0}
LeaveNothing s (t ∷ ts) = ((b : ℕ) → holds (with_turn s t).table Hand b ≡ nothing) × LeaveNothing (with_turn s t) ts

-- of balance it is the empty hand alone that is asked: where movements are defined, the stores add up by themselves
abbrev pub StoresAddUp : Type 0
StoresAddUp =
    (d : Edition) (ts : List Turn) → Meets d movements_are_defined ts → LeaveNothing nothing_so_far ts → Meets d tables_balance ts
