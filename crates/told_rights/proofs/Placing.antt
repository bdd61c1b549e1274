-- Numbers in their places among rising ones, and the brands that movements name.
use Rattle.std.proofs.Common.{◌≡◌, ◌≢◌, ℕ, zero, suc, ◌<◌, ◌≤◌, ◌⊎◌, List, [], ◌∷◌, ◌++◌, length, get_or, insert, refl, sym, ◌∙◌, ap, subst, inl, inr, arith, Less, Equal, Greater}
use Rattle.std.specs.Ordering.{match_ordering}
use Rattle.std.specs.Cmp.{nat_cmp_is}
use Rattle.std.specs.List.{AllByRecursion}
use Rattle.row_records.specs.rights_model.Totals.{brands_of, placed}
use Rattle.row_records.specs.rights_model.declared.Movement.{Movement}
use Rattle.row_records.proofs.fair_rows.Lists.{all_weaker}
use Rattle.told_rights.specs.Sums.{AreRising}

-- ---- one number and the first of a list

module _ (n x : ℕ) (xs : List ℕ) where
  before_first : n < x → placed n (x ∷ xs) ≡ n ∷ x ∷ xs
  before_first h = ap (λ r. match_ordering r (n ∷ x ∷ xs) (x ∷ xs) (x ∷ placed n xs)) (sym (nat_cmp_is n x Less h))

  is_first : n ≡ x → placed n (x ∷ xs) ≡ x ∷ xs
  is_first h = ap (λ r. match_ordering r (n ∷ x ∷ xs) (x ∷ xs) (x ∷ placed n xs)) (sym (nat_cmp_is n x Equal h))

  after_first : x < n → placed n (x ∷ xs) ≡ x ∷ placed n xs
  after_first h = ap (λ r. match_ordering r (n ∷ x ∷ xs) (x ∷ xs) (x ∷ placed n xs)) (sym (nat_cmp_is n x Greater h))

-- below, the same or above
data Compared (m n : ℕ) : Type 0 where
  below : m < n → Compared m n
  same : m ≡ n → Compared m n
  above : n < m → Compared m n

compare : (m n : ℕ) → Compared m n
compare zero zero = same refl
compare zero (suc n) = below (omega arith)
compare (suc m) zero = above (omega arith)
compare (suc m) (suc n) = elim (compare m n) [
  | below h ↦ below (omega (arith, h))
  | same h ↦ same (ap suc h)
  | above h ↦ above (omega (arith, h))
]

-- ---- the order in which they are placed counts for nothing

lower_first : (a b : ℕ) (xs : List ℕ) → a < b → placed a (placed b xs) ≡ placed b (placed a xs)
lower_first a b [] h = before_first a b [] h ∙ sym (after_first b a [] h)
lower_first a b (x ∷ xs) h = elim (compare a x) [
  | below ax ↦ elim (compare b x) [
    | below bx ↦ ap (placed a) (before_first b x xs bx) ∙ before_first a b (x ∷ xs) h ∙ sym (ap (placed b) (before_first a x xs ax) ∙ after_first b a (x ∷ xs) h ∙ ap (λ ys. a ∷ ys) (before_first b x xs bx))
    | same bx ↦ ap (placed a) (is_first b x xs bx) ∙ before_first a x xs ax ∙ sym (ap (placed b) (before_first a x xs ax) ∙ after_first b a (x ∷ xs) h ∙ ap (λ ys. a ∷ ys) (is_first b x xs bx))
    | above bx ↦ ap (placed a) (after_first b x xs bx) ∙ before_first a x (placed b xs) ax ∙ sym (ap (placed b) (before_first a x xs ax) ∙ after_first b a (x ∷ xs) h ∙ ap (λ ys. a ∷ ys) (after_first b x xs bx))
  ]
  | same ax ↦
      let bx : x < b = omega (arith, ax, h) in
      ap (placed a) (after_first b x xs bx) ∙ is_first a x (placed b xs) ax ∙ sym (ap (placed b) (is_first a x xs ax) ∙ after_first b x xs bx)
  | above ax ↦
      let bx : x < b = omega (arith, ax, h) in
      ap (placed a) (after_first b x xs bx) ∙ after_first a x (placed b xs) ax ∙ ap (λ ys. x ∷ ys) (lower_first a b xs h) ∙ sym (ap (placed b) (after_first a x xs ax) ∙ after_first b x (placed a xs) bx)
]

either_first : (a b : ℕ) (xs : List ℕ) → placed a (placed b xs) ≡ placed b (placed a xs)
either_first a b xs = elim (compare a b) [
  | below h ↦ lower_first a b xs h
  | same h ↦ ap (λ n. placed n (placed b xs)) h ∙ ap (λ n. placed b (placed n xs)) (sym h)
  | above h ↦ sym (lower_first b a xs h)
]

-- one movement more, behind the others
pub brands_of-push : (ms : List Movement) (m : Movement) → brands_of (ms ++ m ∷ []) ≡ placed m.brand (brands_of ms)
unfolding brands_of
brands_of-push [] m = refl
brands_of-push (n ∷ ms) m = ap (placed n.brand) (brands_of-push ms m) ∙ either_first n.brand m.brand (brands_of ms)

pub brands_of-none : brands_of [] ≡ []
unfolding brands_of
brands_of-none = refl

-- ---- they rise

above_placed : (x n : ℕ) (xs : List ℕ) → x < n → AllByRecursion (λ y. x < y) xs → AllByRecursion (λ y. x < y) (placed n xs)
above_placed x n [] h all = (h, tt)
above_placed x n (y ∷ ys) h all = elim (compare n y) [
  | below c ↦ subst (AllByRecursion (λ z. x < z)) (sym (before_first n y ys c)) (h, all)
  | same c ↦ subst (AllByRecursion (λ z. x < z)) (sym (is_first n y ys c)) all
  | above c ↦ subst (AllByRecursion (λ z. x < z)) (sym (after_first n y ys c)) (all.0, above_placed x n ys h all.1)
]

rising_placed : (n : ℕ) (xs : List ℕ) → AreRising xs → AreRising (placed n xs)
rising_placed n [] h = (tt, tt)
rising_placed n (x ∷ xs) h = elim (compare n x) [
  | below c ↦ subst AreRising (sym (before_first n x xs c)) ((c, all_weaker (λ y. x < y) (λ y. n < y) (λ y (b : x < y). omega (arith, b, c)) xs h.0), h)
  | same c ↦ subst AreRising (sym (is_first n x xs c)) h
  | above c ↦ subst AreRising (sym (after_first n x xs c)) (above_placed x n xs c h.0, rising_placed n xs h.1)
]

pub brands_rise : (ms : List Movement) → AreRising (brands_of ms)
unfolding brands_of
brands_rise [] = tt
brands_rise (m ∷ ms) = rising_placed m.brand (brands_of ms) (brands_rise ms)

above_at : (x : ℕ) (xs : List ℕ) (j : ℕ) → AllByRecursion (λ y. x < y) xs → j < length xs → x < get_or xs j 0
above_at x [] j all lt = absurd (omega (arith, lt))
above_at x (y ∷ ys) zero all lt = all.0
above_at x (y ∷ ys) (suc j) all lt = above_at x ys j all.1 (omega (arith, lt))

pub rises_at : (xs : List ℕ) (i j : ℕ) → AreRising xs → i < j → j < length xs → get_or xs i 0 < get_or xs j 0
rises_at [] i j h lt within = absurd (omega (arith, within))
rises_at (x ∷ xs) i zero h lt within = absurd (omega (arith, lt))
rises_at (x ∷ xs) zero (suc j) h lt within = above_at x xs j h.0 (omega (arith, within))
rises_at (x ∷ xs) (suc i) (suc j) h lt within = rises_at xs i j h.1 (omega (arith, lt)) (omega (arith, within))

pub never_falls : (xs : List ℕ) (i j : ℕ) → AreRising xs → i ≤ j → j < length xs → get_or xs i 0 ≤ get_or xs j 0
never_falls xs i j h le within = elim (compare i j) [
  | below c ↦ omega (arith, rises_at xs i j h c within)
  | same c ↦ omega (arith, ap (λ n. get_or xs n 0) c)
  | above c ↦ absurd (omega (arith, le, c))
]

-- ---- where a number is, and where it has its place

pub placed_there : (n : ℕ) (xs : List ℕ) (i : ℕ) → ((k : ℕ) → k < i → get_or xs k 0 < n) → i < length xs → get_or xs i 0 ≡ n → placed n xs ≡ xs
placed_there n [] i before within is = absurd (omega arith)
placed_there n (x ∷ xs) zero before within is = is_first n x xs (sym is)
placed_there n (x ∷ xs) (suc i) before within is = after_first n x xs (before 0 (omega arith)) ∙ ap (λ ys. x ∷ ys) (placed_there n xs i (λ k h. before (suc k) (omega arith)) (omega arith) is)

pub placed_new : (n : ℕ) (xs : List ℕ) (i : ℕ) → ((k : ℕ) → k < i → get_or xs k 0 < n) → i ≤ length xs → (i < length xs → n < get_or xs i 0) → placed n xs ≡ insert xs i n
placed_new n [] zero before within later = refl
placed_new n [] (suc i) before within later = absurd (omega arith)
placed_new n (x ∷ xs) zero before within later = before_first n x xs (later (omega arith))
placed_new n (x ∷ xs) (suc i) before within later = after_first n x xs (before 0 (omega arith)) ∙ ap (λ ys. x ∷ ys) (placed_new n xs i (λ k h. before (suc k) (omega arith)) (omega arith) (λ h. later (omega arith)))

pub found_there : (n : ℕ) (xs : List ℕ) (i : ℕ) → AreRising xs → i < length xs → get_or xs i 0 ≡ n → placed n xs ≡ xs
found_there n xs i rise within is = placed_there n xs i (λ k lt. omega (arith, rises_at xs k i rise lt within, is)) within is
