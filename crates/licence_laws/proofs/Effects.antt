-- Effects whose movements come from outside, from purses and from payments just where the turn's rows show it.
use Rattle.std.specs.Prelude.{ℕ, List, [], ◌∷◌, ◌++◌}
use Rattle.std.specs.List.{AllByRecursion}
use Rattle.fair_laws.specs.world_state.rights_model.declared.Movement.{Movement}
use Rattle.fair_laws.specs.world_state.rights_model.declared.Holder.{Holder}
use Rattle.fair_laws.specs.world_state.turn_rows.Turns.{Event, Turn}
use Rattle.fair_laws.specs.world_state.Worlds.{Effect, burn_and_escrows, exit, invite, moves, note_call, offer}
use Rattle.licence_laws.specs.Minting.{IsCalledForAt, IsCalledForRow, ShowsMinting}
use Rattle.licence_laws.specs.Spending.{IsSpentByNameAt, IsSpentByNameRow}

-- what a movement takes from is called for, and named where it is a payment, by the turn's rows; and so is a row
abbrev pub IsShownAt : Turn → Holder → ℕ → Type 0
IsShownAt t h b = IsCalledForAt t h b × IsSpentByNameAt t h

abbrev pub IsShownRow : Turn → Event → Type 0
IsShownRow t e = IsCalledForRow t e × IsSpentByNameRow t e

abbrev pub AreShown : Turn → List Movement → Type 0
AreShown t ms = AllByRecursion (λ (m : Movement). IsShownAt t m.from m.brand) ms

abbrev pub TakesAsShown : Turn → Effect → Type 0
TakesAsShown t (moves ms) = AreShown t ms
TakesAsShown t (offer o) = AreShown t (burn_and_escrows o)
TakesAsShown t (invite d) = ShowsMinting t 0
TakesAsShown t _ = Unit {0}

abbrev pub AllTakeAsShown : Turn → List Effect → Type 0
AllTakeAsShown t es = AllByRecursion (TakesAsShown t) es

-- ---- effects that move nothing, leave no seat, and tell of no call

abbrev pub IsStill : Effect → Type 0
IsStill (moves ms) = ⊥
IsStill (offer o) = ⊥
IsStill (invite d) = ⊥
IsStill (note_call c) = ⊥
IsStill (exit seat cause) = ⊥
IsStill _ = Unit {0}

pub still_takes : (t : Turn) (e : Effect) → IsStill e → TakesAsShown t e
still_takes t (moves ms) still = absurd still
still_takes t (offer o) still = absurd still
still_takes t (invite d) still = absurd still
still_takes t e still = tt

pub all_still_take : (t : Turn) (es : List Effect) → AllByRecursion IsStill es → AllTakeAsShown t es
all_still_take t [] still = tt
all_still_take t (e ∷ es) still = (still_takes t e still.0, all_still_take t es still.1)

-- ---- facts of all of a list

module _ {A : Type 0} (P : A → Type 0) where
  pub first_all : (xs ys : List A) → AllByRecursion P (xs ++ ys) → AllByRecursion P xs
  first_all [] ys all = tt
  first_all (x ∷ xs) ys all = (all.0, first_all xs ys all.1)

  pub second_all : (xs ys : List A) → AllByRecursion P (xs ++ ys) → AllByRecursion P ys
  second_all [] ys all = all
  second_all (x ∷ xs) ys all = second_all xs ys all.1
