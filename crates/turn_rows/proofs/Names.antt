-- Numbers and names are read back from their texts.
use Rattle.std.proofs.Common.{append-nil, ◌≡◌, ℕ, ◌<◌, List, [], ◌∷◌, ◌++◌, length, true, refl, ap, arith}
use Rattle.std.proofs.lemmas.Fmt.{decimal_is_IsNumeral_wide}
use Rattle.std.specs.Char.{is_ascii_digit}
use Rattle.std.specs.Fmt.{decimal}
use Rattle.std.specs.List.{list_all}
use Rattle.std.specs.Str.Parse.{digits_value, AllDigits}
use Rattle.rights_model.specs.declared.Holder.{Holder}
use Rattle.rights_model.specs.declared.Holder.TheVariants as holders
use Rattle.turn_rows.specs.ReadBack.{word_in, rest_in, digits_in, behind_digits, number_of, holder_of}
use Rattle.turn_rows.specs.Rows.{brand_name, instance_name, payment_name, holder_name}
use Rattle.turn_rows.proofs.Ranges.{IsHolder, IsWide}

pub value-decimal : (n : ℕ) → IsWide n → digits_value 10 (decimal n) ≡ n
value-decimal n h = (decimal_is_IsNumeral_wide n (omega arith)).1

all_digits : (ds : List ℕ) → AllDigits 10 ds → list_all is_ascii_digit ds ≡ true
all_digits [] h = refl
all_digits (d ∷ ds) h =
    let others = all_digits ds h.1 in
    let first : is_ascii_digit d ≡ true = grind (arith, h.0) in
    grind arith

abbrev BeginsWithDigit : List ℕ → Type 0
BeginsWithDigit [] = ⊥
BeginsWithDigit (d ∷ ds) = is_ascii_digit d ≡ true

word_in-digit : (xs : List ℕ) → BeginsWithDigit xs → word_in xs ≡ []
word_in-digit [] h = absurd h
word_in-digit (x ∷ xs) h = rw h refl

rest_in-digit : (xs : List ℕ) → BeginsWithDigit xs → rest_in xs ≡ xs
rest_in-digit [] h = absurd h
rest_in-digit (x ∷ xs) h = rw h refl

begins-digits : (ds more : List ℕ) → 0 < length ds → list_all is_ascii_digit ds ≡ true → BeginsWithDigit (ds ++ more)
begins-digits [] more h digits = absurd (omega (arith, h))
begins-digits (d ∷ ds) more h digits = grind arith

digits-decimal : (n : ℕ) → IsWide n → list_all is_ascii_digit (decimal n) ≡ true
digits-decimal n h = all_digits (decimal n) ((decimal_is_IsNumeral_wide n (omega arith)).0.1)

begins-decimal : (n : ℕ) (more : List ℕ) → IsWide n → BeginsWithDigit (decimal n ++ more)
begins-decimal n more h = begins-digits (decimal n) more ((decimal_is_IsNumeral_wide n (omega arith)).0.0) (digits-decimal n h)

word-decimal : (n : ℕ) (more : List ℕ) → IsWide n → word_in (decimal n ++ more) ≡ []
word-decimal n more h = word_in-digit (decimal n ++ more) (begins-decimal n more h)

rest-decimal : (n : ℕ) (more : List ℕ) → IsWide n → rest_in (decimal n ++ more) ≡ decimal n ++ more
rest-decimal n more h = rest_in-digit (decimal n ++ more) (begins-decimal n more h)

word-number : (n : ℕ) → IsWide n → word_in (decimal n) ≡ []
word-number n h = rw append-nil at (word-decimal n [] h)

rest-number : (n : ℕ) → IsWide n → rest_in (decimal n) ≡ decimal n
rest-number n h = rw append-nil at (rest-decimal n [] h)

digits_in-append : (ds more : List ℕ) → list_all is_ascii_digit ds ≡ true → digits_in (ds ++ 46 ∷ more) ≡ ds
digits_in-append [] more h = refl
digits_in-append (d ∷ ds) more h =
    let first : is_ascii_digit d ≡ true = grind arith in
    let others : list_all is_ascii_digit ds ≡ true = grind arith in
    rw first (ap (λ (xs : List ℕ). d ∷ xs) (digits_in-append ds more others))

behind-append : (ds more : List ℕ) → list_all is_ascii_digit ds ≡ true → behind_digits (ds ++ 46 ∷ more) ≡ more
behind-append [] more h = refl
behind-append (d ∷ ds) more h =
    let first : is_ascii_digit d ≡ true = grind arith in
    let others : list_all is_ascii_digit ds ≡ true = grind arith in
    rw first (behind-append ds more others)

pub brand_read : (n : ℕ) → IsWide n → number_of (brand_name n) ≡ n
brand_read n h = rw (rest-number n h) (value-decimal n h)

pub instance_read : (n : ℕ) → IsWide n → number_of (instance_name n) ≡ n
instance_read n h = rw (rest-number n h) (value-decimal n h)

pub payment_read : (n : ℕ) → IsWide n → number_of (payment_name n) ≡ n
payment_read n h = rw (rest-number n h) (value-decimal n h)

pub holder_read : (h : Holder) → IsHolder h → holder_of (holder_name h) ≡ h
holder_read (holders.Purse n) h = rw (word-number n h, rest-number n h, value-decimal n h) refl
holder_read (holders.Payment n) h = rw (word-number n h, rest-number n h, value-decimal n h) refl
holder_read (holders.Slot n keyword) h =
    rw (word-decimal n (46 ∷ keyword) h, rest-decimal n (46 ∷ keyword) h, digits_in-append (decimal n) keyword (digits-decimal n h), behind-append (decimal n) keyword (digits-decimal n h), value-decimal n h) refl
holder_read holders.Hand h = refl
holder_read holders.Outside h = refl
