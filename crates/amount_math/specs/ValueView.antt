-- A value as its kind and its content, and which contents are values of a kind.
use Rattle.std.specs.Prelude.{◌≡◌, ◌≢◌, ℕ, zero, suc, ◌-◌, ◌*◌, ◌^◌, ◌<◌, ◌≤◌, List, length, ◌⊎◌, ℤ, pos, refl}
use Rattle.std.proofs.Common.{arith}
use Rattle.std.specs.declared.cmp.Ordering.TheVariants.{Less}
use Rattle.std.specs.Coded.{Coded, code_by, coded×, coded_ℕ}
use Rattle.std.specs.FinMap as fin
use Rattle.amount_math.specs.declared.Kind.{Kind}
use Rattle.amount_math.specs.declared.Kind.TheVariants.{Nat, Set, Bag}
use Rattle.amount_math.specs.declared.TooMuch.{TooMuch}
use Rattle.amount_math.specs.declared.PutFault.{PutFault}
use Rattle.amount_math.specs.declared.PutFault.TheVariants as put_fault
use Rattle.amount_math.specs.declared.TakeFault.{TakeFault}
use Rattle.amount_math.specs.declared.TakeFault.TheVariants as take_fault
use Rattle.amount_math.specs.Content.{Content, Contains, coded_content, key_cmp, count, of_nat, unit}

pub record ValueView : Type 0 where
  pub kind : Kind
  pub content : Content

-- the highest number of a nat value
abbrev pub nat_bound : ℕ
nat_bound = 2 ^ 120 - 1

-- the highest count of a key of a bag
abbrev pub bag_bound : ℕ
bag_bound = 2 ^ 63 - 1

-- the highest total of the counts that were ever issued of a brand
abbrev pub minted_bound : ℕ
minted_bound = 2 ^ 126 - 1

-- how many of an element there may be
abbrev pub bound : Kind → ℕ
bound Nat = nat_bound
bound Set = 1
bound Bag = bag_bound

-- the most that a value of a kind counts, all elements together
abbrev pub most_counted : Kind → ℕ
most_counted Nat = nat_bound
most_counted Set = 4096
most_counted Bag = 4096 * bag_bound

-- how many keys a set or a bag may have
abbrev pub most_keys : ℕ
most_keys = 4096

-- how many elements a content has
abbrev pub keys_of : Content → ℕ
keys_of c = fin.len c.held

-- no count passes the kind's bound
pub record Fits (kind : Kind) (c : Content) : Type 0 where
  pub each : (k : List ℕ) → count c k ≤ bound kind

-- an element is the first, in byte order, of which there are more than the most
pub record IsFirstPast (most : ℕ) (c : Content) (k : List ℕ) : Type 0 where
  pub passes : most < count c k
  pub first : (q : List ℕ) → most < count c q → key_cmp q k ≢ Less

-- the sum that is shown is the first count, in byte order of the elements, that passes the kind's bound, which is shown with it
pub record PassesBound (kind : Kind) (c : Content) (over : TooMuch) : Type 0 where
  pub element : List ℕ
  pub counted : over.sum ≡ count c element
  pub bounded : over.bound ≡ bound kind
  pub passes : bound kind < count c element
  pub first : (k : List ℕ) → bound kind < count c k → key_cmp k element ≢ Less

-- the number of keys passes its bound, and is shown with it; no count passes the kind's
pub record PassesKeys (kind : Kind) (c : Content) (over : TooMuch) : Type 0 where
  pub fits : Fits kind c
  pub counted : over.sum ≡ keys_of c
  pub bounded : over.bound ≡ most_keys
  pub passes : most_keys < keys_of c

-- when the counts of a sum are refused: memory is wanted, or two sets have a key in common, of which
-- the least is shown, or a count of another kind passes its bound
abbrev pub IsCountRefusal : Kind → Content → PutFault → Type 0
IsCountRefusal kind c (put_fault.Overlap key) = (kind ≡ Set) × IsFirstPast 1 c key
IsCountRefusal kind c (put_fault.TooMuch over) = (kind ≢ Set) × PassesBound kind c over
IsCountRefusal kind c put_fault.NoMemory = Unit {0}

-- when a value isn't added to another: the same, or the sum has too many keys
abbrev pub IsPutRefusal : Kind → Content → PutFault → Type 0
IsPutRefusal kind c (put_fault.Overlap key) = (kind ≡ Set) × IsFirstPast 1 c key
IsPutRefusal kind c (put_fault.TooMuch over) = ((kind ≢ Set) × PassesBound kind c over) ⊎ ((kind ≢ Nat) × PassesKeys kind c over)
IsPutRefusal kind c put_fault.NoMemory = Unit {0}

-- when a part isn't taken: memory is wanted, or less is held
abbrev pub IsTakeRefusal : Content → Content → TakeFault → Type 0
IsTakeRefusal held part take_fault.NotEnough = ¬ Contains held part
IsTakeRefusal held part take_fault.NoMemory = Unit {0}

-- each key has 1 to 64 bytes
pub record HasKeys (c : Content) : Type 0 where
  pub filled : count c unit ≡ 0
  pub short : (k : List ℕ) → count c k ≢ 0 → length k ≤ 64

-- the keys of a set or a bag: each of 1 to 64 bytes, and at most 4,096 of them
pub record IsKeyed (c : Content) : Type 0 where
  pub keys : HasKeys c
  pub few : keys_of c ≤ most_keys

-- a number of units, within the bound
pub record IsNat (c : Content) : Type 0 where
  pub only_units : c ≡ of_nat (count c unit)
  pub fits : Fits Nat c

pub record IsSet (c : Content) : Type 0 where
  pub keyed : IsKeyed c
  pub fits : Fits Set c

pub record IsBag (c : Content) : Type 0 where
  pub keyed : IsKeyed c
  pub fits : Fits Bag c

-- keys of which no count passes the kind's bound, however many they are
pub record AreCounted (kind : Kind) (c : Content) : Type 0 where
  pub keys : HasKeys c
  pub fits : Fits kind c

-- which contents may be out of a brand of the kind: those of all its values together, so of any number of keys
abbrev pub IsOutstanding : Kind → Content → Type 0
IsOutstanding Nat c = IsNat c
IsOutstanding Set c = AreCounted Set c
IsOutstanding Bag c = AreCounted Bag c

-- a set or a bag has few enough keys
abbrev pub HasFew : Kind → Content → Type 0
HasFew Nat c = Unit {0}
HasFew Set c = keys_of c ≤ most_keys
HasFew Bag c = keys_of c ≤ most_keys

-- which contents are values of a kind
abbrev pub IsValue : Kind → Content → Type 0
IsValue Nat = IsNat
IsValue Set = IsSet
IsValue Bag = IsBag

-- a whole number, as the content that it stands for
pub record IsNumber (z : ℤ) (c : Content) : Type 0 where
  pub number : ℕ
  pub whole : z ≡ pos number
  pub units : c ≡ of_nat number

-- one of the two that is contained in both
pub record IsLeast (a b least : ValueView) : Type 0 where
  pub one_of : (least ≡ a) ⊎ (least ≡ b)
  pub in_left : Contains a.content least.content
  pub in_right : Contains b.content least.content

-- one of the two that contains both
pub record IsGreatest (a b greatest : ValueView) : Type 0 where
  pub one_of : (greatest ≡ a) ⊎ (greatest ≡ b)
  pub has_left : Contains greatest.content a.content
  pub has_right : Contains greatest.content b.content

-- neither contains the other
pub record IsIncomparable (a b : Content) : Type 0 where
  pub left : ¬ Contains a b
  pub right : ¬ Contains b a

pub fits_from_value : (kind : Kind) (c : Content) → IsValue kind c → Fits kind c
fits_from_value Nat c value = value.fits
fits_from_value Set c value = value.fits
fits_from_value Bag c value = value.fits

-- what passes the bound doesn't fit
pub passes_not_fits : (kind : Kind) (c : Content) (over : TooMuch) → PassesBound kind c over → ¬ Fits kind c
passes_not_fits kind c over past fits = omega (arith, past.passes, fits.each past.element)

-- what is contained in what fits does fit
pub fits_within : (kind : Kind) (a b : Content) → Contains a b → Fits kind a → Fits kind b
fits_within kind a b has fits = record { each = λ k. omega (arith, has.each k, fits.each k) }

-- the same kind with another content
abbrev pub with_content : ValueView → Content → ValueView
with_content w c = record { kind = w.kind; content = c }

abbrev pub kind_number : Kind → ℕ
kind_number Nat = 0
kind_number Set = 1
kind_number Bag = 2

abbrev pub kind_of : ℕ → Kind
kind_of zero = Nat
kind_of (suc zero) = Set
kind_of (suc (suc n)) = Bag

pub kind_back : (w : ValueView) → record { kind = kind_of (kind_number w.kind); content = w.content } ≡ w
kind_back w = elim w.kind as (λ k. record { kind = kind_of (kind_number k); content = w.content } ≡ record { kind = k; content = w.content }) [ Nat ↦ refl | Set ↦ refl | Bag ↦ refl ]

-- the numbers that stand for a value, which a model needs
abbrev pub coded_value_view : Coded ValueView
coded_value_view = code_by (ℕ × Content) (coded× coded_ℕ coded_content) (λ w. (kind_number w.kind, w.content)) (λ p. record { kind = kind_of p.0; content = p.1 }) kind_back
