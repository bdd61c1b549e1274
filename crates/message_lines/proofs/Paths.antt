-- The label of a path, and its steps.
use Rattle.std.proofs.Common.{◌≡◌, ◌+◌, ◌≤◌, ℕ, suc, List, [], ◌∷◌, length, take, drop, Bool, true, false, not, cond, ltb, Some, None, refl, arith}
use Rattle.std.specs.Prelude.{◌==◌, ◌&&◌}
use Rattle.std.specs.List.{slice_split, position, position_or_len, prefix_len}
use Rattle.std.proofs.lemmas.List.Splits.{slice_split_first}
use Rattle.turn_records.specs.host_text.Words.{is_label}
use Rattle.message_lines.specs.Arguments.{is_path, are_steps, steps_of}
use borrow.Author.Tests.{ltb-true, ltb-false}

cut_at : (p : ℕ → Bool) (xs : List ℕ) (i : ℕ) (b : Bool) → ltb (position_or_len p xs) (length xs) ≡ b → cond b (Some (position_or_len p xs)) None ≡ Some i
    → slice_split p xs ≡ take i xs ∷ slice_split p (drop (i + 1) xs)
cut_at p xs i true lt is =
    let at : position_or_len p xs ≡ i = cc in
    rw (← at) (slice_split_first p xs 0 (ltb-true _ _ lt))
cut_at p xs i false lt is = cc

uncut_cons : (p : ℕ → Bool) (x : ℕ) (xs : List ℕ) (b : Bool) → p x ≡ b → (length xs ≤ prefix_len (λ x. not (p x)) xs → slice_split p xs ≡ xs ∷ [])
    → suc (length xs) ≤ cond (not b) (1 + prefix_len (λ x. not (p x)) xs) 0 → slice_split p (x ∷ xs) ≡ (x ∷ xs) ∷ []
uncut_cons p x xs true is more h = absurd (omega arith)
uncut_cons p x xs false is more h = rw (is, more (omega arith))

uncut_from : (p : ℕ → Bool) (xs : List ℕ) → length xs ≤ prefix_len (λ x. not (p x)) xs → slice_split p xs ≡ xs ∷ []
uncut_from p [] h = refl
uncut_from p (x ∷ xs) h = uncut_cons p x xs (p x) refl (uncut_from p xs) h

uncut : (p : ℕ → Bool) (xs : List ℕ) (b : Bool) → ltb (position_or_len p xs) (length xs) ≡ b → cond b (Some (position_or_len p xs)) None ≡ None
    → slice_split p xs ≡ xs ∷ []
uncut p xs true lt is = cc
uncut p xs false lt is = uncut_from p xs (ltb-false _ _ lt)

pub is_path-dot : (bs : List ℕ) (i : ℕ) → position (λ b. b == 46) bs ≡ Some i → is_path bs ≡ (is_label (take i bs) && are_steps (steps_of (drop (i + 1) bs)))
unfolding is_path
is_path-dot bs i is = rw (cut_at (λ b. b == 46) bs i _ refl is)

and_nothing : (b : Bool) → (b && true) ≡ b
and_nothing true = refl
and_nothing false = refl

pub is_path-no_dot : (bs : List ℕ) → position (λ b. b == 46) bs ≡ None → is_path bs ≡ is_label bs
unfolding is_path
is_path-no_dot bs is = rw (uncut (λ b. b == 46) bs _ refl is) (and_nothing (is_label bs))
