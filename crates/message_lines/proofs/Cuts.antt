-- The first line of an input, and what is left after it.
use Rattle.std.proofs.Common.{◌≡◌, ◌+◌, ◌≤◌, ℕ, suc, List, [], ◌∷◌, length, take, drop, Bool, true, false, not, cond, ltb, Some, None, refl, arith}
use Rattle.std.proofs.lemmas.List.Splits.{slice_split_first}
use Rattle.std.specs.List.{slice_split, position, position_or_len, prefix_len}
use Rattle.std.specs.Prelude.{◌==◌}
use Rattle.message_lines.specs.InputLines.{lines_of}
use borrow.Author.Tests.{ltb-true, ltb-false}

slice_split-some_at : (p : ℕ → Bool) (xs : List ℕ) (i : ℕ) (b : Bool) → ltb (position_or_len p xs) (length xs) ≡ b → cond b (Some (position_or_len p xs)) None ≡ Some i
    → slice_split p xs ≡ take i xs ∷ slice_split p (drop (i + 1) xs)
slice_split-some_at p xs i true lt is =
    let at : position_or_len p xs ≡ i = cc in
    rw (← at) (slice_split_first p xs 0 (ltb-true _ _ lt))
slice_split-some_at p xs i false lt is = cc

slice_split-none_cons : (p : ℕ → Bool) (x : ℕ) (xs : List ℕ) (b : Bool) → p x ≡ b → (length xs ≤ prefix_len (λ x. not (p x)) xs → slice_split p xs ≡ xs ∷ [])
    → suc (length xs) ≤ cond (not b) (1 + prefix_len (λ x. not (p x)) xs) 0 → slice_split p (x ∷ xs) ≡ (x ∷ xs) ∷ []
slice_split-none_cons p x xs true is more h = absurd (omega arith)
slice_split-none_cons p x xs false is more h = rw (is, more (omega arith))

slice_split-none_from : (p : ℕ → Bool) (xs : List ℕ) → length xs ≤ prefix_len (λ x. not (p x)) xs → slice_split p xs ≡ xs ∷ []
slice_split-none_from p [] h = refl
slice_split-none_from p (x ∷ xs) h = slice_split-none_cons p x xs (p x) refl (slice_split-none_from p xs) h

slice_split-none_at : (p : ℕ → Bool) (xs : List ℕ) (b : Bool) → ltb (position_or_len p xs) (length xs) ≡ b → cond b (Some (position_or_len p xs)) None ≡ None
    → slice_split p xs ≡ xs ∷ []
slice_split-none_at p xs true lt is = cc
slice_split-none_at p xs false lt is = slice_split-none_from p xs (ltb-false _ _ lt)

pub lines_of-some : (xs : List ℕ) (i : ℕ) → position (λ b. b == 10) xs ≡ Some i → lines_of xs ≡ take i xs ∷ lines_of (drop (i + 1) xs)
unfolding lines_of
lines_of-some xs i is = slice_split-some_at (λ b. b == 10) xs i _ refl is

pub lines_of-none : (xs : List ℕ) → position (λ b. b == 10) xs ≡ None → lines_of xs ≡ xs ∷ []
unfolding lines_of
lines_of-none xs is = slice_split-none_at (λ b. b == 10) xs _ refl is
