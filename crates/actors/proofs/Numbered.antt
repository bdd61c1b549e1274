-- Lists of what a function gives of each element and its number.
use Rattle.std.proofs.Common.{◌≡◌, ℕ, zero, suc, ◌+◌, ◌<◌, List, [], ◌∷◌, ◌++◌, length, get_or, set, refl, sym, ap, subst, ◌∙◌, arith}
use Rattle.actors.specs.Changes.{numbered}

module _ {A B : Type 0} where
  pub length_numbered : (f : ℕ → A → B) (k : ℕ) (xs : List A) → length (numbered f k xs) ≡ length xs
  length_numbered f k [] = refl
  length_numbered f k (x ∷ xs) = ap suc (length_numbered f (k + 1) xs)

  -- one more
  pub numbered_last : (f : ℕ → A → B) (m k : ℕ) (xs : List A) (x : A) → m ≡ k + length xs → numbered f k (xs ++ x ∷ []) ≡ numbered f k xs ++ f m x ∷ []
  numbered_last f m k [] x e = let first : k ≡ m = omega (arith, e) in λ i. f (first i) x ∷ []
  numbered_last f m k (y ∷ ys) x e = ap (λ (zs : List B). f k y ∷ zs) (numbered_last f m (k + 1) ys x (omega (arith, e)))

  -- what f gives of the element x at n, which has the number m
  pub number_at : (f : ℕ → A → B) (d : B) (m k n : ℕ) (xs : List A) (x : A) → m ≡ k + n → n < length xs → x ≡ get_or xs n x → get_or (numbered f k xs) n d ≡ f m x
  number_at f d m k n [] x e h at = absurd (omega (arith, h))
  number_at f d m k zero (y ∷ ys) x e h at = let first : k ≡ m = omega (arith, e) in λ i. f (first i) (sym at i)
  number_at f d m k (suc n) (y ∷ ys) x e h at = number_at f d m (k + 1) n ys x (omega (arith, e)) (omega (arith, h)) at

  -- what is read of it, where that doesn't depend on the element
  pub number_reads : {C : Type 0} (f : ℕ → A → B) (d : B) (read : B → C) (r : C) (m k n : ℕ) (xs : List A) → m ≡ k + n → n < length xs → ((x : A) → read (f m x) ≡ r)
      → read (get_or (numbered f k xs) n d) ≡ r
  number_reads f d read r m k n [] e h reads = absurd (omega (arith, h))
  number_reads f d read r m k zero (y ∷ ys) e h reads = let first : k ≡ m = omega (arith, e) in ap (λ q. read (f q y)) first ∙ reads y
  number_reads f d read r m k (suc n) (y ∷ ys) e h reads = number_reads f d read r m (k + 1) n ys (omega (arith, e)) (omega (arith, h)) reads

-- g gives at the number m what f gives, changed by u, and elsewhere the same
module _ {A B : Type 0} (f g : ℕ → A → B) (m : ℕ) (u : B → B) (d : B) (here : (x : A) → g m x ≡ u (f m x)) (elsewhere : (q : ℕ) (x : A) → (q ≡ m → ⊥) → g q x ≡ f q x) where
  same_behind : (k : ℕ) (xs : List A) → m < k → numbered g k xs ≡ numbered f k xs
  same_behind k [] h = refl
  same_behind k (x ∷ xs) h = let other : k ≡ m → ⊥ = λ e. omega (arith, e, h) in λ i. elsewhere k x other i ∷ same_behind (k + 1) xs (omega (arith, h)) i

  pub numbered_changed : (k n : ℕ) (xs : List A) → m ≡ k + n → numbered g k xs ≡ set (numbered f k xs) n (u (get_or (numbered f k xs) n d))
  numbered_changed k n [] e = refl
  numbered_changed k zero (x ∷ xs) e =
      let first : m ≡ k = omega (arith, e) in
      let P : ℕ → Type 0 = λ q. g q x ≡ u (f q x) in
      let head : g k x ≡ u (f k x) = subst P first (here x) in
      λ i. head i ∷ same_behind (k + 1) xs (omega (arith, e)) i
  numbered_changed k (suc n) (x ∷ xs) e =
      let other : k ≡ m → ⊥ = λ same. omega (arith, e, same) in
      λ i. elsewhere k x other i ∷ numbered_changed (k + 1) n xs (omega (arith, e)) i
