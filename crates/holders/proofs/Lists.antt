-- What stands at an index after an element is written, appended or cut off.
use Rattle.std.proofs.Common.{◌≡◌, ℕ, ◌+◌, ◌<◌, zero, suc, List, [], ◌∷◌, ◌++◌, length, map, refl, sym, ap, ◌∙◌, arith}
use Rattle.std.specs.Prelude.{Option, None, Some, slice_get, slice_set}

module _ {X : Type 0} where
  pub get_set_same : (xs : List X) (i : ℕ) (y : X) → i < length xs → slice_get (slice_set xs i y) i ≡ Some y
  get_set_same [] i y lt = absurd (omega arith)
  get_set_same (x ∷ xs) zero y lt = refl
  get_set_same (x ∷ xs) (suc i) y lt = get_set_same xs i y (omega arith)

  pub get_set_other : (xs : List X) (i j : ℕ) (y : X) → (j ≡ i → ⊥) → slice_get (slice_set xs i y) j ≡ slice_get xs j
  get_set_other [] i j y apart = refl
  get_set_other (x ∷ xs) zero zero y apart = absurd (apart refl)
  get_set_other (x ∷ xs) zero (suc j) y apart = refl
  get_set_other (x ∷ xs) (suc i) zero y apart = refl
  get_set_other (x ∷ xs) (suc i) (suc j) y apart = get_set_other xs i j y (λ e. apart (ap suc e))

  pub get_more : (xs : List X) (i : ℕ) (x y : X) → slice_get xs i ≡ Some x → slice_get (xs ++ y ∷ []) i ≡ Some x
  get_more [] i x y h = cc
  get_more (z ∷ xs) zero x y h = h
  get_more (z ∷ xs) (suc i) x y h = get_more xs i x y h

  pub get_last : (xs : List X) (i : ℕ) (y : X) → i ≡ length xs → slice_get (xs ++ y ∷ []) i ≡ Some y
  get_last [] zero y is = refl
  get_last [] (suc i) y is = absurd (omega arith)
  get_last (z ∷ xs) zero y is = absurd (omega arith)
  get_last (z ∷ xs) (suc i) y is = get_last xs i y (omega arith)

  pub get_before : (xs : List X) (i : ℕ) (x y : X) → slice_get (xs ++ y ∷ []) i ≡ Some x → (i ≡ length xs → ⊥) → slice_get xs i ≡ Some x
  get_before [] zero x y h apart = absurd (apart refl)
  get_before [] (suc i) x y h apart = cc
  get_before (z ∷ xs) zero x y h apart = h
  get_before (z ∷ xs) (suc i) x y h apart = get_before xs i x y h (λ e. apart (ap suc e))

  pub get_in : {Y : Type 0} (f : X → Y) (xs : List X) (i : ℕ) (y : Y) → slice_get (map f xs) i ≡ Some y → (x : X) × (slice_get xs i ≡ Some x) × (f x ≡ y)
  get_in f [] i y h = cc
  get_in f (x ∷ xs) zero y h = (x, refl, cc)
  get_in f (x ∷ xs) (suc i) y h = get_in f xs i y h

  pub set_same : (xs : List X) (i : ℕ) (x : X) → slice_get xs i ≡ Some x → slice_set xs i x ≡ xs
  set_same [] i x h = cc
  set_same (y ∷ xs) zero x h = let same : x ≡ y = cc in ap (λ z. z ∷ xs) same
  set_same (y ∷ xs) (suc i) x h = ap (λ zs. y ∷ zs) (set_same xs i x h)
