-- What is due of a timer's entries, and what is left.
use Rattle.std.specs.Prelude.{nat_lt, not, cond, slice_index_or, if◌then◌else◌}
use Rattle.std.specs.List.{filter}
use Rattle.std.specs.List.Sorted.{IsNonDecreasing}
use Rattle.std.proofs.Common.{◌≡◌, inl, inr, ℕ, suc, ◌+◌, ◌<◌, Bool, true, false, List, [], ◌∷◌, ◌++◌, length, map, drop, Some, None, refl, sym, ◌∙◌, ap, arith}
use Rattle.std.proofs.lemmas.Bool.{cases_lt}
use Rattle.std.proofs.lemmas.Bool.Decides.{nat_tests}
use Rattle.std.proofs.lemmas.List.{map-append}
use Rattle.world_state.specs.turn_stores.Schedules.{Schedule, due_after, due_by, in_front, times_of, woken_at}
use Rattle.world_state.specs.turn_records.Deliveries as deliveries
use Rattle.world_state.specs.Worlds.{due_at, scheduled, set_to}
use Rattle.registers.specs.Timed.{entries_of, entry_view, schedule_of, timed_view}
use Rattle.registers.specs.declared.time_effects.Timed.{Timed}

-- ---- entries as the world sees them

filter_mapped : {A B : Type 0} (f : A → B) (p : B → Bool) (xs : List A) → filter p (map f xs) ≡ map f (filter (λ x. p (f x)) xs)
filter_mapped f p [] = refl
filter_mapped f p (x ∷ xs) =
    ap (λ ys. cond (p (f x)) (f x ∷ ys) ys) (filter_mapped f p xs)
    ∙ elim (p (f x)) as (λ b. cond b (f x ∷ map f (filter (λ x. p (f x)) xs)) (map f (filter (λ x. p (f x)) xs)) ≡ map f (cond b (x ∷ filter (λ x. p (f x)) xs) (filter (λ x. p (f x)) xs))) [
      | true ↦ refl
      | false ↦ refl
    ]

by_view : (t : ℕ) (ws : List (ℕ × Timed)) → due_by t (map entry_view ws) ≡ map entry_view (due_by t ws)
by_view t ws = filter_mapped entry_view (λ w. not (nat_lt t w.0)) ws

after_view : (t : ℕ) (ws : List (ℕ × Timed)) → due_after t (map entry_view ws) ≡ map entry_view (due_after t ws)
after_view t ws = filter_mapped entry_view (λ w. nat_lt t w.0) ws

pub woken_view : (t : ℕ) (e : Timed) (s : Schedule Timed) → schedule_of (woken_at t e s) ≡ woken_at t (timed_view e) (schedule_of s)
woken_view t e s =
    let waiting : map entry_view (due_by t s.waiting ++ (t, e) ∷ due_after t s.waiting) ≡ due_by t (map entry_view s.waiting) ++ (t, timed_view e) ∷ due_after t (map entry_view s.waiting) =
    map-append entry_view (due_by t s.waiting) ((t, e) ∷ due_after t s.waiting)
    ∙ (ap (λ xs. xs ++ (t, timed_view e) ∷ map entry_view (due_after t s.waiting)) (sym (by_view t s.waiting))
    ∙ ap (λ xs. due_by t (map entry_view s.waiting) ++ (t, timed_view e) ∷ xs) (sym (after_view t s.waiting))) in
    λ i. record { time = s.time; made = s.made + 1; waiting = waiting i }

seconds : (ws : List (ℕ × Timed)) → map (λ (e : ℕ × deliveries.Delivery). e.1) (map entry_view ws) ≡ entries_of ws
seconds [] = refl
seconds (w ∷ ws) = ap (λ xs. timed_view w.1 ∷ xs) (seconds ws)

pub due_view : (t : ℕ) (s : Schedule Timed) → due_at t (schedule_of s) ≡ entries_of (due_by t s.waiting)
due_view t s = ap (map (λ (e : ℕ × deliveries.Delivery). e.1)) (by_view t s.waiting) ∙ seconds (due_by t s.waiting)

pub set_view : (t : ℕ) (s : Schedule Timed) → schedule_of (record { time = t; made = s.made; waiting = due_after t s.waiting }) ≡ set_to t (schedule_of s)
set_view t s = λ i. record { time = t; made = s.made; waiting = sym (after_view t s.waiting) i }

-- ---- the first that is due

-- none is due where the first isn't
all_later : (t : ℕ) (ws : List (ℕ × Timed)) → ((j : ℕ) → j < length ws → t < slice_index_or (times_of ws) j 0) → (due_by t ws ≡ []) × (due_after t ws ≡ ws)
all_later t [] later = (refl, refl)
all_later t (w ∷ ws) later =
    let here : nat_lt t w.0 ≡ true = let lt = later 0 (omega arith) in grind (arith, nat_tests) in
    let ih = all_later t ws (λ j lt. later (suc j) (omega (arith, lt))) in (
      ap (λ b. cond (not b) (w ∷ due_by t ws) (due_by t ws)) here ∙ ih.0,
      ap (λ b. cond b (w ∷ due_after t ws) (due_after t ws)) here ∙ ap (λ xs. w ∷ xs) ih.1,
    )

length_times : (ws : List (ℕ × Timed)) → length (times_of ws) ≡ length ws
length_times [] = refl
length_times (w ∷ ws) = omega (arith, length_times ws)

in_front_none : (t : ℕ) (w : ℕ × Timed) (ws : List (ℕ × Timed)) → in_front t (w ∷ ws) ≡ None → t < w.0
in_front_none t w ws e = elim (cases_lt t w.0) [
  | inl lt ↦ lt
  | inr le ↦ absurd (let no : nat_lt t w.0 ≡ false = grind (arith, nat_tests) in two (sym (ap (λ b. cond b None (Some w.1)) no) ∙ e))
]
  where
    two : {x : Timed} → Some x ≡ None → ⊥
    two e = grind arith

pub none_due : (t : ℕ) (ws : List (ℕ × Timed)) → IsNonDecreasing (times_of ws) → in_front t ws ≡ None → (due_by t ws ≡ []) × (due_after t ws ≡ ws)
none_due t [] sorted e = (refl, refl)
none_due t (w ∷ ws) sorted e =
    let lt = in_front_none t w ws e in
    all_later t (w ∷ ws) (λ j within. let up = sorted 0 j 0 (omega arith) (omega (arith, within, length_times ws)) in omega (arith, lt, up))

pub one_due : (t : ℕ) (ws : List (ℕ × Timed)) (x : Timed) → in_front t ws ≡ Some x
    → (entries_of (due_by t ws) ≡ timed_view x ∷ entries_of (due_by t (drop 1 ws))) × (due_after t (drop 1 ws) ≡ due_after t ws) × (length (drop 1 ws) < length ws)
one_due t [] x e = absurd (let two : None ≡ Some x = e in grind arith)
one_due t (w ∷ ws) x e = elim (cases_lt t w.0) [
  | inl lt ↦ absurd (let yes : nat_lt t w.0 ≡ true = grind (arith, nat_tests) in two (sym (ap (λ b. cond b None (Some w.1)) yes) ∙ e))
  | inr le ↦
      let no : nat_lt t w.0 ≡ false = grind (arith, nat_tests) in
      let here : Some w.1 ≡ Some x = sym (ap (λ b. cond b None (Some w.1)) no) ∙ e in
      let same : w.1 ≡ x = grind arith in (
        ap (λ b. entries_of (cond (not b) (w ∷ due_by t ws) (due_by t ws))) no ∙ ap (λ y. timed_view y ∷ entries_of (due_by t ws)) same,
        sym (ap (λ b. cond b (w ∷ due_after t ws) (due_after t ws)) no),
        omega arith,
      )
]
  where
    two : None ≡ Some x → ⊥
    two e = grind arith

pub scheduled_is : (t : ℕ) (d : deliveries.Delivery) (s : Schedule deliveries.Delivery) → s.time < t → scheduled t d s ≡ woken_at t d s
scheduled_is t d s lt = let yes : nat_lt s.time t ≡ true = grind (arith, nat_tests) in ap (λ b. if b then woken_at t d s else s) yes
