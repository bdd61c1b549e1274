-- Effects one list behind another; and the delivery in front of a world.
use Rattle.std.specs.Prelude.{drop}
use Rattle.std.specs.List.{AllByRecursion}
use Rattle.std.proofs.Common.{◌≡◌, ◌<◌, List, [], ◌∷◌, ◌++◌, length, refl, arith}
use Rattle.contract_powers.specs.registers.RegisterStates.{front_of}
use Rattle.contract_powers.specs.turn_records.Deliveries.{Delivery}
use Rattle.contract_powers.proofs.world_laws.Fronts.{begins}
use Rattle.contract_powers.specs.world_state.Good.{AreGood}
use Rattle.contract_powers.specs.world_state.Worlds.{Effect, State, after, after_all, behind, in_front}

pub all_both : {A : Type 0} (P : A → Type 0) (xs ys : List A) → AllByRecursion P xs → AllByRecursion P ys → AllByRecursion P (xs ++ ys)
all_both P [] ys one two = two
all_both P (x ∷ xs) ys one two = (one.0, all_both P xs ys one.1 two)

pub first_good : (w : State) (es fs : List Effect) → AreGood w (es ++ fs) → AreGood w es
first_good w [] fs are = tt
first_good w (e ∷ es) fs are = (are.0, first_good (after w e) es fs are.1)

pub second_good : (w : State) (es fs : List Effect) → AreGood w (es ++ fs) → AreGood (after_all w es) fs
second_good w [] fs are = are
second_good w (e ∷ es) fs are = second_good (after w e) es fs are.1

pub split_front : (ds : List Delivery) → 0 < length ds → ds ≡ front_of ds ∷ drop 1 ds
split_front [] lt = absurd (omega (arith, lt))
split_front (d ∷ ds) lt = refl

pub fronted : (w : State) → 0 < length w.waiting → w ≡ in_front (front_of w.waiting) (behind w)
fronted w lt = begins w (front_of w.waiting) (drop 1 w.waiting) (split_front w.waiting lt)
