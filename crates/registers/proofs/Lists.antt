-- Lists of what a function gives, and how often a number stands in a list.
use Rattle.std.specs.Prelude.{◌==◌, cond, slice_index_or, slice_set}
use Rattle.std.specs.List.{AllByRecursion, filter}
use Rattle.std.proofs.Common.{◌≡◌, ◌≢◌, inl, inr, ℕ, zero, suc, ◌+◌, ◌-◌, ◌<◌, ◌≤◌, Bool, true, false, List, [], ◌∷◌, ◌++◌, length, refl, sym, ◌∙◌, ap, arith}
use Rattle.std.proofs.lemmas.Bool.{cases_lt}
use Rattle.std.proofs.lemmas.Bool.Decides.{nat_tests}
use Rattle.std.proofs.lemmas.List.{set-append_left, set-append_right}
use Rattle.world_state.proofs.lemmas.ListEdits.{length_push, read_before, read_pushed}
use Rattle.registers.specs.Books.{listed}

nothing_over : (n : ℕ) → n - n ≡ 0
nothing_over n = omega arith

module _ {X : Type 0} where
  pub length_listed : (f : ℕ → X) (n : ℕ) → length (listed f n) ≡ n
  length_listed f zero = refl
  length_listed f (suc n) = omega (arith, length_push (listed f n) (f n), length_listed f n)

  pub read_listed : (f : ℕ → X) (n q : ℕ) (d : X) → q < n → slice_index_or (listed f n) q d ≡ f q
  read_listed f zero q d lt = absurd (omega (arith, lt))
  read_listed f (suc n) q d lt = elim (cases_lt q n) [
    | inl below ↦ read_before (listed f n) (f n) d q (λ (e : length (listed f n) ≡ q). absurd (omega (arith, e, below, length_listed f n))) ∙ read_listed f n q d below
    | inr past ↦
        let is : q ≡ n = omega (arith, lt, past) in
        read_pushed (listed f n) (f n) d q (omega (arith, is, length_listed f n)) ∙ ap f (sym is)
  ]

  pub listed_alike : (f g : ℕ → X) (n : ℕ) → ((q : ℕ) → q < n → f q ≡ g q) → listed f n ≡ listed g n
  listed_alike f g zero same = refl
  listed_alike f g (suc n) same =
      ap (λ xs. xs ++ f n ∷ []) (listed_alike f g n (λ q lt. same q (omega (arith, lt))))
      ∙ ap (λ x. listed g n ++ x ∷ []) (same n (omega arith))

  -- one of them is set
  pub set_listed : (f g : ℕ → X) (n p : ℕ) (x : X) → p < n → g p ≡ x → ((q : ℕ) → p ≢ q → g q ≡ f q) → slice_set (listed f n) p x ≡ listed g n
  set_listed f g zero p x lt at other = absurd (omega (arith, lt))
  set_listed f g (suc n) p x lt at other = elim (cases_lt p n) [
    | inl below ↦
        set-append_left (listed f n) (f n ∷ []) p x (omega (arith, below, length_listed f n))
        ∙ (ap (λ xs. xs ++ f n ∷ []) (set_listed f g n p x below at other)
        ∙ ap (λ y. listed g n ++ y ∷ []) (sym (other n (λ (e : p ≡ n). absurd (omega (arith, e, below))))))
    | inr past ↦
        let is : p ≡ n = omega (arith, lt, past) in
        let there : g n ≡ x = ap g (sym is) ∙ at in
        let before : listed f n ≡ listed g n = listed_alike f g n (λ q below. sym (other q (λ (e : p ≡ q). absurd (omega (arith, e, is, below))))) in
        ap (λ k. slice_set (listed f n ++ f n ∷ []) k x) is
        ∙ (set-append_right (listed f n) (f n ∷ []) n n x (length_listed f n) (omega arith)
        ∙ (ap (λ k. listed f n ++ slice_set (f n ∷ []) k x) (nothing_over n)
        ∙ (ap (λ xs. xs ++ x ∷ []) before ∙ ap (λ y. listed g n ++ y ∷ []) (sym there))))
  ]

-- how often q is one of them
abbrev pub one_at : Bool → ℕ
one_at true = 1
one_at false = 0

abbrev pub times : ℕ → List ℕ → ℕ
times q [] = 0
times q (p ∷ ps) = one_at (p == q) + times q ps

pub times-append : (q : ℕ) (xs ys : List ℕ) → times q (xs ++ ys) ≡ times q xs + times q ys
times-append q [] ys = omega arith
times-append q (x ∷ xs) ys = omega (arith, times-append q xs ys)

abbrev pub is_zero : ℕ → Bool
is_zero zero = true
is_zero (suc n) = false

pub times_here : (q : ℕ) (ps : List ℕ) → 1 ≤ times q (q ∷ ps)
times_here q ps = grind (arith, nat_tests)

pub times_other : (p q : ℕ) (ps : List ℕ) → p ≢ q → times q (p ∷ ps) ≡ times q ps
times_other p q ps apart = grind (arith, nat_tests)

-- two filters in turn
module _ {A : Type 0} where
  pub filter_two : (f g h : A → Bool) (xs : List A) → AllByRecursion (λ x. cond (g x) (f x) false ≡ h x) xs → filter f (filter g xs) ≡ filter h xs
  filter_two f g h [] all = refl
  filter_two f g h (x ∷ xs) all =
      let ih : filter f (filter g xs) ≡ filter h xs = filter_two f g h xs all.1 in
      let here : cond (g x) (f x) false ≡ h x = all.0 in
      elim (g x) as (λ b. cond b (f x) false ≡ h x → filter f (cond b (x ∷ filter g xs) (filter g xs)) ≡ cond (h x) (x ∷ filter h xs) (filter h xs)) [
        | true ↦ λ e. ap (λ ys. cond (f x) (x ∷ ys) ys) ih ∙ ap (λ b. cond b (x ∷ filter h xs) (filter h xs)) e
        | false ↦ λ e. ih ∙ ap (λ b. cond b (x ∷ filter h xs) (filter h xs)) e
      ] here

  pub filter_alike : (f g : A → Bool) (xs : List A) → AllByRecursion (λ x. f x ≡ g x) xs → filter f xs ≡ filter g xs
  filter_alike f g [] all = refl
  filter_alike f g (x ∷ xs) all =
      ap (λ ys. cond (f x) (x ∷ ys) ys) (filter_alike f g xs all.1)
      ∙ ap (λ b. cond b (x ∷ filter g xs) (filter g xs)) all.0

  pub everywhere : (P : A → Type 0) → ((x : A) → P x) → (xs : List A) → AllByRecursion P xs
  everywhere P each [] = tt
  everywhere P each (x ∷ xs) = (each x, everywhere P each xs)
