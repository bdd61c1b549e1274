-- Lists of which one element is written, and what maps make of them.
use Rattle.std.specs.Prelude.{slice_set, slice_index_or}
use Rattle.std.proofs.Common.{◌≡◌, ◌≢◌, ℕ, zero, suc, ◌+◌, ◌-◌, ◌<◌, ◌≤◌, List, [], ◌∷◌, ◌++◌, length, take, map, refl, ◌∙◌, ap, arith}

pub set_set : {X : Type 0} (xs : List X) (n : ℕ) (x y : X) → slice_set (slice_set xs n x) n y ≡ slice_set xs n y
set_set [] n x y = refl
set_set (z ∷ zs) zero x y = refl
set_set (z ∷ zs) (suc n) x y = ap (λ l. z ∷ l) (set_set zs n x y)

pub set_same : {X : Type 0} (xs : List X) (n : ℕ) (d : X) → slice_set xs n (slice_index_or xs n d) ≡ xs
set_same [] n d = refl
set_same (z ∷ zs) zero d = refl
set_same (z ∷ zs) (suc n) d = ap (λ l. z ∷ l) (set_same zs n d)

pub read_set : {X : Type 0} (xs : List X) (n : ℕ) (x d : X) → n < length xs → slice_index_or (slice_set xs n x) n d ≡ x
read_set [] n x d lt = absurd (omega arith)
read_set (z ∷ zs) zero x d lt = refl
read_set (z ∷ zs) (suc n) x d lt = read_set zs n x d (omega arith)

pub read_other : {X : Type 0} (xs : List X) (n q : ℕ) (x d : X) → n ≢ q → slice_index_or (slice_set xs n x) q d ≡ slice_index_or xs q d
read_other [] n q x d apart = refl
read_other (z ∷ zs) zero zero x d apart = absurd (apart refl)
read_other (z ∷ zs) zero (suc q) x d apart = refl
read_other (z ∷ zs) (suc n) zero x d apart = refl
read_other (z ∷ zs) (suc n) (suc q) x d apart = read_other zs n q x d (λ e. apart (ap suc e))

pub length_set : {X : Type 0} (xs : List X) (n : ℕ) (x : X) → length (slice_set xs n x) ≡ length xs
length_set [] n x = refl
length_set (z ∷ zs) zero x = refl
length_set (z ∷ zs) (suc n) x = omega (arith, length_set zs n x)

pub take_all_but : {X : Type 0} (xs : List X) (x : X) (n : ℕ) → n ≡ length xs → take n (xs ++ x ∷ []) ≡ xs
take_all_but [] x zero e = refl
take_all_but [] x (suc n) e = absurd (omega arith)
take_all_but (z ∷ zs) x zero e = absurd (omega arith)
take_all_but (z ∷ zs) x (suc n) e = ap (λ l. z ∷ l) (take_all_but zs x n (omega arith))

pub length_push : {X : Type 0} (xs : List X) (x : X) → length (xs ++ x ∷ []) ≡ length xs + 1
length_push [] x = refl
length_push (z ∷ zs) x = omega (arith, length_push zs x)

pub without_pushed : {X : Type 0} (xs : List X) (x : X) → take (length (xs ++ x ∷ []) - 1) (xs ++ x ∷ []) ≡ xs
without_pushed xs x = take_all_but xs x _ (omega (arith, length_push xs x))

pub read_pushed : {X : Type 0} (xs : List X) (x d : X) (n : ℕ) → n ≡ length xs → slice_index_or (xs ++ x ∷ []) n d ≡ x
read_pushed [] x d zero e = refl
read_pushed [] x d (suc n) e = absurd (omega arith)
read_pushed (z ∷ zs) x d zero e = absurd (omega arith)
read_pushed (z ∷ zs) x d (suc n) e = read_pushed zs x d n (omega arith)

pub read_before : {X : Type 0} (xs : List X) (x d : X) (n : ℕ) → length xs ≢ n → slice_index_or (xs ++ x ∷ []) n d ≡ slice_index_or xs n d
read_before [] x d zero apart = absurd (apart refl)
read_before [] x d (suc n) apart = refl
read_before (z ∷ zs) x d zero apart = refl
read_before (z ∷ zs) x d (suc n) apart = read_before zs x d n (λ e. apart (ap suc e))

pub read_past : {X : Type 0} (xs : List X) (d : X) (n : ℕ) → length xs ≤ n → slice_index_or xs n d ≡ d
read_past [] d n le = refl
read_past (z ∷ zs) d zero le = absurd (omega arith)
read_past (z ∷ zs) d (suc n) le = read_past zs d n (omega arith)

pub read_take : {X : Type 0} (xs : List X) (n q : ℕ) (d : X) → q < length (take n xs) → slice_index_or (take n xs) q d ≡ slice_index_or xs q d
read_take [] zero q d lt = absurd (omega arith)
read_take [] (suc n) q d lt = absurd (omega arith)
read_take (z ∷ zs) zero q d lt = absurd (omega arith)
read_take (z ∷ zs) (suc n) zero d lt = refl
read_take (z ∷ zs) (suc n) (suc q) d lt = read_take zs n q d (omega arith)

pub length_taken : {X : Type 0} (xs : List X) (n : ℕ) → length (take n xs) ≤ length xs
length_taken [] zero = omega arith
length_taken [] (suc n) = omega arith
length_taken (z ∷ zs) zero = omega arith
length_taken (z ∷ zs) (suc n) = omega (arith, length_taken zs n)

module _ {X Y : Type 0} (f : X → Y) where
  pub map_set : (xs : List X) (n : ℕ) (x : X) → map f (slice_set xs n x) ≡ slice_set (map f xs) n (f x)
  map_set [] n x = refl
  map_set (z ∷ zs) zero x = refl
  map_set (z ∷ zs) (suc n) x = ap (λ l. f z ∷ l) (map_set zs n x)

  pub read_map : (xs : List X) (n : ℕ) (d : X) → slice_index_or (map f xs) n (f d) ≡ f (slice_index_or xs n d)
  read_map [] n d = refl
  read_map (z ∷ zs) zero d = refl
  read_map (z ∷ zs) (suc n) d = read_map zs n d

  pub map_take : (xs : List X) (n : ℕ) → map f (take n xs) ≡ take n (map f xs)
  map_take [] zero = refl
  map_take [] (suc n) = refl
  map_take (z ∷ zs) zero = refl
  map_take (z ∷ zs) (suc n) = ap (λ l. f z ∷ l) (map_take zs n)

  pub map_push : (xs : List X) (x : X) → map f (xs ++ x ∷ []) ≡ map f xs ++ f x ∷ []
  map_push [] x = refl
  map_push (z ∷ zs) x = ap (λ l. f z ∷ l) (map_push zs x)

  pub length_map : (xs : List X) → length (map f xs) ≡ length xs
  length_map [] = refl
  length_map (z ∷ zs) = omega (arith, length_map zs)

  -- a write that keeps a part of what stands there keeps it everywhere
  pub keeps : (xs : List X) (n : ℕ) (x d : X) → f x ≡ f (slice_index_or xs n d) → (q : ℕ) → f (slice_index_or (slice_set xs n x) q d) ≡ f (slice_index_or xs q d)
  keeps [] n x d e q = refl
  keeps (z ∷ zs) zero x d e zero = e
  keeps (z ∷ zs) zero x d e (suc q) = refl
  keeps (z ∷ zs) (suc n) x d e zero = refl
  keeps (z ∷ zs) (suc n) x d e (suc q) = keeps zs n x d e q

-- what was written is there, and turned round it is as before
module _ {X : Type 0} (xs : List X) (n : ℕ) (d x : X) (lt : n < length xs) where
  pub written_back : (f : X → X) → f x ≡ slice_index_or xs n d → slice_set (slice_set xs n x) n (f (slice_index_or (slice_set xs n x) n d)) ≡ xs
  written_back f is =
      set_set xs n x _
      ∙ ap (λ y. slice_set xs n (f y)) (read_set xs n x d lt)
      ∙ ap (slice_set xs n) is
      ∙ set_same xs n d

-- a read with any default, of what is there
pub read_default : {X : Type 0} (xs : List X) (n : ℕ) (d e : X) → n < length xs → slice_index_or xs n d ≡ slice_index_or xs n e
read_default [] n d e lt = absurd (omega arith)
read_default (z ∷ zs) zero d e lt = refl
read_default (z ∷ zs) (suc n) d e lt = read_default zs n d e (omega arith)

pub read_now : {X : Type 0} (xs : List X) (n b : ℕ) (x d : X) → b < length xs → n ≡ b → x ≡ slice_index_or xs n x → x ≡ slice_index_or xs b d
read_now xs n b x d lt at is = is ∙ ap (λ q. slice_index_or xs q x) at ∙ read_default xs b x d lt
