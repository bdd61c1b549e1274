-- What a shape says of the kind and the content that it stands for.
use Rattle.std.proofs.Common.{◌≡◌, ◌≢◌, ℕ, ◌+◌, ◌≤◌, ap, sym, ◌∙◌, subst, arith}
use Rattle.amount_math.specs.declared.Kind.{Kind}
use Rattle.amount_math.specs.declared.Kind.TheVariants as kind
use Rattle.amount_math.specs.declared.shape.Shape.{Shape}
use Rattle.amount_math.specs.declared.shape.Shape.TheVariants.{Nat, Set, Bag}
use Rattle.amount_math.specs.Content.{Contains, nothing, of_nat, of_nat_zero, unit, count-of_nat_unit, count, sum, sum-of_nat, difference, count-difference}
use Rattle.amount_math.specs.ValueView.{ValueView, Fits, HasFew, IsNat, IsOutstanding, IsValue, with_content, nat_bound}
use Rattle.amount_math.specs.NatLaws.{IsNat-of_nat}
use Rattle.amount_math.specs.KindLaws.{nothing_is_value, outstanding_part, outstanding_sum, value_of_part, value_of_sum}
use Rattle.amount_math.specs.Shapes.{value_view, IsCounted, IsShape}

pub of_nat-injective : (m n : ℕ) → of_nat m ≡ of_nat n → m ≡ n
of_nat-injective m n e = sym (count-of_nat_unit m) ∙ ap (λ c. count c unit) e ∙ count-of_nat_unit n

pub nothing-of_nat : (n : ℕ) → of_nat n ≡ nothing → n ≡ 0
nothing-of_nat n e = of_nat-injective n 0 (e ∙ sym of_nat_zero)

number_fits : (n : ℕ) → IsNat (of_nat n) → n ≤ nat_bound
number_fits n p = omega (arith, p.fits.each unit, count-of_nat_unit n)

-- ---- values

pub value_of_shape : (s : Shape) → IsShape s → IsValue (value_view s).kind (value_view s).content
value_of_shape (Nat n) h = IsNat-of_nat n h
value_of_shape (Set c) h = h
value_of_shape (Bag c) h = h

pub shape_of_value : (s : Shape) → IsValue (value_view s).kind (value_view s).content → IsShape s
shape_of_value (Nat n) h = number_fits n h
shape_of_value (Set c) h = h
shape_of_value (Bag c) h = h

-- each value is one of its kind
pub is_value : (w : ValueView) (s : Shape) → value_view s ≡ w → IsShape s → IsValue w.kind w.content
is_value w s e h = subst (λ (v : ValueView). IsValue v.kind v.content) e (value_of_shape s h)

pub is_shape : (w : ValueView) (s : Shape) → value_view s ≡ w → IsValue w.kind w.content → IsShape s
is_shape w s e h = shape_of_value s (subst (λ (v : ValueView). IsValue v.kind v.content) (sym e) h)

-- ---- what is out

pub outstanding_of_shape : (s : Shape) → IsCounted s → IsOutstanding (value_view s).kind (value_view s).content
outstanding_of_shape (Nat n) h = IsNat-of_nat n h
outstanding_of_shape (Set c) h = h
outstanding_of_shape (Bag c) h = h

pub shape_of_outstanding : (s : Shape) → IsOutstanding (value_view s).kind (value_view s).content → IsCounted s
shape_of_outstanding (Nat n) h = number_fits n h
shape_of_outstanding (Set c) h = h
shape_of_outstanding (Bag c) h = h

pub counted_shape : (s : Shape) → IsShape s → IsCounted s
counted_shape (Nat n) h = h
counted_shape (Set c) h = record { keys = h.keyed.keys; fits = h.fits }
counted_shape (Bag c) h = record { keys = h.keyed.keys; fits = h.fits }

module _ (s t u : Shape) (kinds : (value_view s).kind ≡ (value_view t).kind) where
  module _ (is : value_view u ≡ with_content (value_view s) (sum (value_view s).content (value_view t).content)) (fits : Fits (value_view s).kind (sum (value_view s).content (value_view t).content)) where
    -- the sum that fits and has few enough keys
    pub value_sum : IsShape s → IsShape t → HasFew (value_view s).kind (sum (value_view s).content (value_view t).content) → IsValue (value_view s).kind (sum (value_view s).content (value_view t).content)
    value_sum p q few = value_of_sum (value_view s).kind _ _ (value_of_shape s p) (subst (λ (k : Kind). IsValue k (value_view t).content) (sym kinds) (value_of_shape t q)) fits few

    pub shape_sum : IsShape s → IsShape t → HasFew (value_view s).kind (sum (value_view s).content (value_view t).content) → IsShape u
    shape_sum p q few = is_shape _ u is (value_sum p q few)

    pub counted_sum : IsCounted s → IsCounted t → IsCounted u
    counted_sum p q = shape_of_outstanding u (subst (λ (v : ValueView). IsOutstanding v.kind v.content) (sym is)
        (outstanding_sum (value_view s).kind _ _ (outstanding_of_shape s p) (subst (λ (k : Kind). IsOutstanding k (value_view t).content) (sym kinds) (outstanding_of_shape t q)) fits))

  module _ (is : value_view u ≡ with_content (value_view s) (difference (value_view s).content (value_view t).content)) where
    within : Contains (value_view s).content (difference (value_view s).content (value_view t).content)
    within = record { each = λ k. omega (arith, count-difference (value_view s).content (value_view t).content k) }

    pub shape_difference : IsShape s → IsShape u
    shape_difference p = is_shape _ u is (value_of_part (value_view s).kind _ _ within (value_of_shape s p))

    pub counted_difference : IsCounted s → IsCounted u
    counted_difference p = shape_of_outstanding u (subst (λ (v : ValueView). IsOutstanding v.kind v.content) (sym is) (outstanding_part (value_view s).kind _ _ within (outstanding_of_shape s p)))

-- what is out with few enough keys is a value
pub shape_of_few : (s : Shape) → IsCounted s → HasFew (value_view s).kind (value_view s).content → IsShape s
shape_of_few (Nat n) h few = h
shape_of_few (Set c) h few = record { keyed = record { keys = h.keys; few = few }; fits = h.fits }
shape_of_few (Bag c) h few = record { keyed = record { keys = h.keys; few = few }; fits = h.fits }

-- the sum of two values that fits and has few enough keys is one
pub sum_is_value : (s t : Shape) → (value_view s).kind ≡ (value_view t).kind → IsShape s → IsShape t → Fits (value_view s).kind (sum (value_view s).content (value_view t).content) → HasFew (value_view s).kind (sum (value_view s).content (value_view t).content) → IsValue (value_view s).kind (sum (value_view s).content (value_view t).content)
sum_is_value s t kinds p q fits few = value_of_sum (value_view s).kind _ _ (value_of_shape s p) (subst (λ (k : Kind). IsValue k (value_view t).content) (sym kinds) (value_of_shape t q)) fits few

-- ---- by what a shape stands for

pub counted_is : (w : ValueView) (s : Shape) → value_view s ≡ w → IsOutstanding w.kind w.content → IsCounted s
counted_is w s e h = shape_of_outstanding s (subst (λ (v : ValueView). IsOutstanding v.kind v.content) (sym e) h)

pub same_value_view : (a b : ValueView) → a.kind ≡ b.kind → a.content ≡ b.content → a ≡ b
same_value_view a b kinds contents i = record { kind = kinds i; content = contents i }

-- ---- what has nothing

pub nothing_is_shape : (s u : Shape) → value_view u ≡ with_content (value_view s) nothing → IsShape u
nothing_is_shape s u is = is_shape _ u is (nothing_is_value (value_view s).kind)

-- ---- numbers

pub sum_bounded : (m n : ℕ) → Fits kind.Nat (sum (of_nat m) (of_nat n)) → m + n ≤ nat_bound
sum_bounded m n fits = omega (arith, fits.each unit, ap (λ c. count c unit) (sum-of_nat m n), count-of_nat_unit (m + n))

pub sum_fits : (m n : ℕ) → m + n ≤ nat_bound → Fits kind.Nat (sum (of_nat m) (of_nat n))
sum_fits m n h = subst (λ c. Fits kind.Nat c) (sym (sum-of_nat m n)) (IsNat-of_nat (m + n) h).fits

pub nat_is_no_set : kind.Nat ≢ kind.Set
nat_is_no_set e = cc

pub bag_is_no_set : kind.Bag ≢ kind.Set
bag_is_no_set e = cc
