-- Facts of each element of a list, and lists of which one element is written or to which some are added.
use Rattle.std.specs.Prelude.{cond, slice_index_or, slice_set}
use Rattle.std.specs.List.{AllByRecursion, filter}
use Rattle.std.proofs.Common.{◌≡◌, inl, inr, ℕ, zero, suc, ◌+◌, ◌<◌, ◌≤◌, Bool, true, false, List, [], ◌∷◌, ◌++◌, length, map, refl, ◌∙◌, sym, ap, subst, arith}
use Rattle.std.proofs.lemmas.Bool.{cases_eq}
use Rattle.world_state.specs.Known.{Extends, Keeps}
use Rattle.world_state.proofs.lemmas.ListEdits.{length_push, length_set, read_before, read_other, read_set}

module _ {A : Type 0} (P Q : A → Type 0) (to : (x : A) → P x → Q x) where
  pub all_map : (xs : List A) → AllByRecursion P xs → AllByRecursion Q xs
  all_map [] all = tt
  all_map (x ∷ xs) all = (to x all.0, all_map xs all.1)

module _ {A : Type 0} (P : A → Type 0) where
  pub all_push : (xs : List A) (x : A) → AllByRecursion P xs → P x → AllByRecursion P (xs ++ x ∷ [])
  all_push [] x all one = (one, tt)
  all_push (y ∷ ys) x all one = (all.0, all_push ys x all.1 one)

  pub all_append : (xs ys : List A) → AllByRecursion P xs → AllByRecursion P ys → AllByRecursion P (xs ++ ys)
  all_append [] ys all more = more
  all_append (x ∷ xs) ys all more = (all.0, all_append xs ys all.1 more)

  pub all_set : (xs : List A) (n : ℕ) (x : A) → AllByRecursion P xs → P x → AllByRecursion P (slice_set xs n x)
  all_set [] n x all one = tt
  all_set (y ∷ ys) zero x all one = (one, all.1)
  all_set (y ∷ ys) (suc n) x all one = (all.0, all_set ys n x all.1 one)

  pub all_read : (xs : List A) (n : ℕ) (d : A) → AllByRecursion P xs → n < length xs → P (slice_index_or xs n d)
  all_read [] n d all lt = absurd (omega arith)
  all_read (y ∷ ys) zero d all lt = all.0
  all_read (y ∷ ys) (suc n) d all lt = all_read ys n d all.1 (omega arith)

  pub all_filter : (f : A → Bool) (xs : List A) → AllByRecursion P xs → AllByRecursion P (filter f xs)
  all_filter f [] all = tt
  all_filter f (x ∷ xs) all = elim (f x) as (λ t. AllByRecursion P (cond t (x ∷ filter f xs) (filter f xs))) [
    | true ↦ (all.0, all_filter f xs all.1)
    | false ↦ all_filter f xs all.1
  ]

pub all_under : {A B : Type 0} (f : A → B) (P : B → Type 0) (xs : List A) → AllByRecursion (λ x. P (f x)) xs → AllByRecursion P (map f xs)
all_under f P [] all = tt
all_under f P (x ∷ xs) all = (all.0, all_under f P xs all.1)

-- ---- lists that have all that others have

module _ {A B : Type 0} (seen : A → B) (none : A) where
  pub extends_refl : (xs : List A) → Extends seen none xs xs
  extends_refl xs = record { more = omega arith; same = λ n lt. refl }

  pub extends_push : (xs : List A) (x : A) → Extends seen none xs (xs ++ x ∷ [])
  extends_push xs x = record {
    more = omega (arith, length_push xs x);
    same = λ n lt. ap seen (read_before xs x none n (λ (e : length xs ≡ n). absurd (omega (arith, lt, e))));
  }

  pub extends_set : (xs : List A) (n : ℕ) (x : A) → seen x ≡ seen (slice_index_or xs n none) → Extends seen none xs (slice_set xs n x)
  extends_set xs n x as_it_was = record {
    more = omega (arith, length_set xs n x);
    same = λ q lt. elim (cases_eq n q) [
      | inl is ↦
          let here : seen (slice_index_or (slice_set xs n x) n none) ≡ seen (slice_index_or xs n none) = ap seen (read_set xs n x none (omega (arith, lt, is))) ∙ as_it_was in
          subst (λ k. seen (slice_index_or (slice_set xs n x) k none) ≡ seen (slice_index_or xs k none)) is here
      | inr other ↦ ap seen (read_other xs n q x none other)
    ];
  }

pub extends_trans : {A B : Type 0} (seen : A → B) (none : A) (xs ys zs : List A) → Extends seen none xs ys → Extends seen none ys zs → Extends seen none xs zs
extends_trans seen none xs ys zs f g = record {
  more = omega (arith, f.more, g.more);
  same = λ n lt. g.same n (omega (arith, lt, f.more)) ∙ f.same n lt;
}

pub length_append : {A : Type 0} (xs ys : List A) → length (xs ++ ys) ≡ length xs + length ys
length_append [] ys = omega arith
length_append (x ∷ xs) ys = omega (arith, length_append xs ys)

pub length_map : {A B : Type 0} (f : A → B) (xs : List A) → length (map f xs) ≡ length xs
length_map f [] = refl
length_map f (x ∷ xs) = omega (arith, length_map f xs)

pub all_read_or : {A : Type 0} (P : A → Type 0) (xs : List A) (n : ℕ) (d : A) → AllByRecursion P xs → P d → P (slice_index_or xs n d)
all_read_or P [] n d all other = other
all_read_or P (y ∷ ys) zero d all other = all.0
all_read_or P (y ∷ ys) (suc n) d all other = all_read_or P ys n d all.1 other

-- ---- lists in which what has a property keeps it

module _ {A : Type 0} (P : A → Type 0) (none : A) where
  pub keeps_refl : (xs : List A) → Keeps P none xs xs
  keeps_refl xs = record { each = λ n lt p. p }

  pub keeps_push : (xs : List A) (x : A) → Keeps P none xs (xs ++ x ∷ [])
  keeps_push xs x = record {
    each = λ n lt p. subst P (sym (read_before xs x none n (λ (e : length xs ≡ n). absurd (omega (arith, e, lt))))) p;
  }

  pub keeps_set : (xs : List A) (n : ℕ) (x : A) → (P (slice_index_or xs n none) → P x) → Keeps P none xs (slice_set xs n x)
  keeps_set xs n x to = record {
    each = λ q lt p. elim (cases_eq n q) [
      | inl is ↦
          let here : P (slice_index_or xs n none) → P (slice_index_or (slice_set xs n x) n none) = λ h. subst P (sym (read_set xs n x none (omega (arith, lt, is)))) (to h) in
          subst (λ k. P (slice_index_or xs k none) → P (slice_index_or (slice_set xs n x) k none)) is here p
      | inr other ↦ subst P (sym (read_other xs n q x none other)) p
    ];
  }

pub keeps_trans : {A : Type 0} (P : A → Type 0) (none : A) (xs ys zs : List A) → length xs ≤ length ys → Keeps P none xs ys → Keeps P none ys zs → Keeps P none xs zs
keeps_trans P none xs ys zs le f g = record { each = λ n lt p. g.each n (omega (arith, lt, le)) (f.each n lt p) }

pub keeps_append : {A : Type 0} (P : A → Type 0) (none : A) (xs ys : List A) → Keeps P none xs (xs ++ ys)
keeps_append {A} P none xs ys = record { each = by xs }
  where
    by : (xs : List A) (n : ℕ) → n < length xs → P (slice_index_or xs n none) → P (slice_index_or (xs ++ ys) n none)
    by [] n lt p = absurd (omega (arith, lt))
    by (x ∷ xs) zero lt p = p
    by (x ∷ xs) (suc n) lt p = by xs n (omega (arith, lt)) p
