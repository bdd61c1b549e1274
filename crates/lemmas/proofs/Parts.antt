-- Stable facts are made of stable parts.
use Rattle.std.proofs.Common.{◌≡◌, ◌⊎◌, inl, inr, List, [], ◌∷◌, Option, Some, None}
use Rattle.std.proofs.Math.Logic.{∥∥₁_elim, ∥∥₁_map}
use Rattle.std.specs.Prelude.{IfSome}
use Rattle.std.specs.List.{AllByRecursion}
use Rattle.lemmas.specs.Stable.{IsStable}

pub stable_prop : {A : Type 0} → IsProp A → IsStable A
stable_prop p = record { told = λ t. ∥∥₁_elim t p (λ a. a) }

pub stable_both : {A B : Type 0} → IsStable A → IsStable B → IsStable (A × B)
stable_both f g = record { told = λ t. (f.told (∥∥₁_map t (λ p. p.0)), g.told (∥∥₁_map t (λ p. p.1))) }

pub stable_each : {A : Type 0} {B : A → Type 0} → ((x : A) → IsStable (B x)) → IsStable ((x : A) → B x)
stable_each f = record { told = λ t x. (f x).told (∥∥₁_map t (λ h. h x)) }

pub stable_like : {A B : Type 0} (to : A → B) (from : B → A) → ((a : A) → from (to a) ≡ a) → IsStable B → IsStable A
stable_like to from back f = record { told = λ t. from (f.told (∥∥₁_map t to)) }

never : (x y : ⊥) → x ≡ y
never x y = absurd x

pub stable_or_not : {A : Type 0} → A ⊎ (A → ⊥) → IsStable A
stable_or_not (inl a) = record { told = λ t. a }
stable_or_not (inr refuted) = record { told = λ t. absurd (∥∥₁_elim t never refuted) }

pub stable_all : {X : Type 0} (P : X → Type 0) → ((x : X) → IsStable (P x)) → (xs : List X) → IsStable (AllByRecursion P xs)
stable_all P f [] = record { told = λ t. tt }
stable_all P f (x ∷ xs) = record { told = λ t. ((f x).told (∥∥₁_map t (λ h. h.0)), (stable_all P f xs).told (∥∥₁_map t (λ h. h.1))) }

pub stable_if : {X : Type 0} (P : X → Type 0) → ((x : X) → IsStable (P x)) → (o : Option X) → IsStable (IfSome o P)
stable_if P f None = record { told = λ t. tt }
stable_if P f (Some x) = f x

-- one of two, of which the first is so or not
pub stable_either : {A B : Type 0} → A ⊎ (A → ⊥) → IsStable B → IsStable (A ⊎ B)
stable_either (inl a) f = record { told = λ t. inl a }
stable_either {A} {B} (inr refuted) f = record { told = λ t. inr (f.told (∥∥₁_map t other)) }
  where
    other : A ⊎ B → B
    other (inl a) = absurd (refuted a)
    other (inr b) = b
