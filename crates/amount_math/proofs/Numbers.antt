-- Sums, differences and comparisons of nat values, by their numbers.
use Rattle.std.proofs.Common.{◌≡◌, ◌≢◌, ℕ, ◌+◌, ◌-◌, ◌<◌, ◌≤◌, ℤ, List, [], ◌∷◌, ap, sym, ◌∙◌, subst, arith}
use Rattle.std.specs.declared.cmp.Ordering.TheVariants.{Less}
use Rattle.amount_math.specs.declared.Kind.TheVariants as kind
use Rattle.amount_math.specs.declared.shape.Shape.TheVariants.{Nat}
use Rattle.amount_math.specs.declared.TooMuch.{TooMuch}
use Rattle.amount_math.specs.Content.{Content, key_cmp, unit, count, sum, difference, Contains, of_nat, sum-of_nat, difference-of_nat, Contains-of_nat, le-Contains_of_nat, count-of_nat_unit}
use Rattle.amount_math.specs.ValueView.{ValueView, IsNat, IsNumber, PassesBound, nat_bound, with_content}
use Rattle.amount_math.specs.NatLaws.{IsNat-of_nat}
use Rattle.amount_math.specs.Shapes.{value_view}

-- no element is before the unit
unit_is_first : (k : List ℕ) → key_cmp k unit ≢ Less
unit_is_first [] = λ e. cc
unit_is_first (x ∷ k) = λ e. cc

pub number_is_within : (z : ℤ) (c : Content) → IsNat c → (stands : IsNumber z c) → stands.number ≤ nat_bound
number_is_within z c value stands = omega (arith, value.fits.each unit, ap (λ d. count d unit) stands.units, count-of_nat_unit stands.number)

module _ (a : ValueView) (m n : ℕ) (is_a : value_view (Nat m) ≡ a) where
  pub added : value_view (Nat (m + n)) ≡ with_content a (sum a.content (of_nat n))
  added = rw (← is_a) (ap (λ c. record { kind = kind.Nat; content = c }) (sym (sum-of_nat m n)))

  pub lessened : value_view (Nat (m - n)) ≡ with_content a (difference a.content (of_nat n))
  lessened = rw (← is_a) (ap (λ c. record { kind = kind.Nat; content = c }) (sym (difference-of_nat m n)))

  pub sum_is_nat : m + n ≤ nat_bound → IsNat (sum a.content (of_nat n))
  sum_is_nat h = rw (← is_a) (subst IsNat (sym (sum-of_nat m n)) (IsNat-of_nat (m + n) h))

  pub passes : (over : TooMuch) → over.sum ≡ m + n → over.bound ≡ nat_bound → nat_bound < m + n → PassesBound kind.Nat (sum a.content (of_nat n)) over
  passes over is limit h = rw (← is_a) (subst (λ c. PassesBound kind.Nat c over) (sym (sum-of_nat m n)) (record {
    element = unit;
    counted = is ∙ sym (count-of_nat_unit (m + n));
    bounded = limit;
    passes = omega (arith, count-of_nat_unit (m + n));
    first = λ k _. unit_is_first k;
  }))

  pub contains : n ≤ m → Contains a.content (of_nat n)
  contains h = rw (← is_a) (Contains-of_nat m n h)

  pub le_from_contains : Contains a.content (of_nat n) → n ≤ m
  le_from_contains f = le-Contains_of_nat m n (subst (λ (w : ValueView). Contains w.content (of_nat n)) (sym is_a) f)

  module _ (b : ValueView) (is_b : value_view (Nat n) ≡ b) where
    pub contains_other : n ≤ m → Contains a.content b.content
    contains_other h = subst (λ (w : ValueView). Contains a.content w.content) is_b (contains h)

    pub le_from_contains_other : Contains a.content b.content → n ≤ m
    le_from_contains_other f = le_from_contains (subst (λ (w : ValueView). Contains a.content w.content) (sym is_b) f)
