-- Numbers in decimal, read and written.
use Rattle.std.proofs.Common.{◌≡◌, ℕ, ℤ, pos, negsuc, neg_ℤ, cond, ◌<◌, ◌≤◌, ◌^◌, List, [], ◌∷◌, Bool, true, false, Result, Ok, Err, Some, None, length, refl, sym, ap, subst, FitsSigned, ◌∙◌, arith, nat_lt, ◌==◌, suc}
use Rattle.std.proofs.lemmas.Str.Ascii.{IsAscii-cons, IsAscii-nil}
use Rattle.std.proofs.lemmas.Str.{IsUtf8-from_ascii}
use Rattle.std.proofs.lemmas.Fmt.{decimal_is_IsNumeral_wide, IsAscii-from_digits, length-decimal-le_wide}
use Rattle.std.specs.Char.{is_ascii_digit}
use Rattle.std.specs.Fmt.{decimal, signed_decimal}
use Rattle.std.specs.Int.{w128}
use Rattle.std.specs.List.{list_all}
use Rattle.std.specs.Result.{result_ok}
use Rattle.std.specs.Str.{IsAscii, IsUtf8}
use Rattle.std.specs.Str.Parse.{AllDigits, digits_value, IsNumeral, ParsesSigned, without_leading_plus, without_leading_sign, signed_digits_value}
use Rattle.host_text.specs.Numbers.{is_number, are_digits, digits_of, is_negative, value_of, fits, number_in}

-- the digits of std and the test
pub list_all-AllDigits : (ds : List ℕ) → AllDigits 10 ds → list_all is_ascii_digit ds ≡ true
list_all-AllDigits [] h = refl
list_all-AllDigits (d ∷ ds) h =
    let others = list_all-AllDigits ds h.1 in
    let first : is_ascii_digit d ≡ true = grind (arith, h.0) in
    grind arith

pub AllDigits-list_all : (ds : List ℕ) → list_all is_ascii_digit ds ≡ true → AllDigits 10 ds
AllDigits-list_all [] h = tt
AllDigits-list_all (d ∷ ds) h =
    let first : is_ascii_digit d ≡ true = grind arith in
    let others : list_all is_ascii_digit ds ≡ true = grind arith in
    (grind (arith, first), AllDigits-list_all ds others)

-- texts of digits
pub IsNumeral-digits : (ds : List ℕ) → are_digits ds ≡ true → IsNumeral 10 ds
IsNumeral-digits [] h = absurd (grind arith)
IsNumeral-digits (d ∷ ds) h =
    let digits : list_all is_ascii_digit (d ∷ ds) ≡ true = grind arith in
    (omega arith, AllDigits-list_all (d ∷ ds) digits)

pub are_digits-IsNumeral : (ds : List ℕ) → IsNumeral 10 ds → length ds ≤ 39 → are_digits ds ≡ true
are_digits-IsNumeral [] h short = absurd (omega (arith, h.0))
are_digits-IsNumeral (d ∷ ds) h short =
    let digits : list_all is_ascii_digit (d ∷ ds) ≡ true = list_all-AllDigits (d ∷ ds) h.1 in
    rw digits (grind arith)

pub IsAscii-digits : (ds : List ℕ) → are_digits ds ≡ true → IsAscii ds
IsAscii-digits ds h = IsAscii-from_digits ds (IsNumeral-digits ds h).1

-- they have no sign
pub no_plus : (ds : List ℕ) → are_digits ds ≡ true → without_leading_plus ds ≡ ds
no_plus [] h = refl
no_plus (d ∷ ds) h =
    let other : d == 43 ≡ false = grind arith in
    rw other refl

pub no_minus : (ds : List ℕ) → are_digits ds ≡ true → is_negative ds ≡ false
no_minus [] h = refl
no_minus (d ∷ ds) h = grind arith

-- what the test says of a text with and without a sign
without_sign : (bs : List ℕ) (b : Bool) → is_negative bs ≡ b → is_number bs ≡ true → without_leading_sign bs ≡ digits_of bs
without_sign bs true e h = rw e refl
without_sign bs false e h = let digits : are_digits bs ≡ true = rw e at h in rw e (no_plus bs digits)

pub without_leading_sign-digits : (bs : List ℕ) → is_number bs ≡ true → without_leading_sign bs ≡ digits_of bs
without_leading_sign-digits bs h = without_sign bs (is_negative bs) refl h

ascii_with_sign : (b : ℕ) (bs : List ℕ) (s : Bool) → b == 45 ≡ s → is_number (b ∷ bs) ≡ true → IsAscii (b ∷ bs)
ascii_with_sign b bs true e h =
    let digits : are_digits bs ≡ true = rw e at h in
    IsAscii-cons b bs (grind arith) (IsAscii-digits bs digits)
ascii_with_sign b bs false e h =
    let digits : are_digits (b ∷ bs) ≡ true = rw e at h in
    IsAscii-digits (b ∷ bs) digits

pub IsUtf8-is_number : (bs : List ℕ) → is_number bs ≡ true → IsUtf8 bs
IsUtf8-is_number [] h = IsUtf8-from_ascii [] IsAscii-nil
IsUtf8-is_number (b ∷ bs) h = IsUtf8-from_ascii (b ∷ bs) (ascii_with_sign b bs (b == 45) refl h)

-- the range
pub fits-FitsSigned : (z : ℤ) → FitsSigned w128 z → fits z ≡ true
fits-FitsSigned (pos n) h = grind (arith, h.sfits)
fits-FitsSigned (negsuc n) h = grind (arith, h.sfits)

pub FitsSigned-fits : (z : ℤ) → fits z ≡ true → FitsSigned w128 z
FitsSigned-fits (pos n) h = record { sfits = grind arith }
FitsSigned-fits (negsuc n) h = record { sfits = grind arith }

-- `parse` at a text that has the form
pub signed_digits_value-value_of : (bs : List ℕ) → is_number bs ≡ true → signed_digits_value 10 bs ≡ value_of bs
signed_digits_value-value_of bs h =
    ap (λ ds. cond (is_negative bs) (neg_ℤ (pos (digits_value 10 ds))) (pos (digits_value 10 ds))) (without_leading_sign-digits bs h)

pub number_in-is : (bs : List ℕ) → is_number bs ≡ true → fits (value_of bs) ≡ true → number_in bs ≡ Some (value_of bs)
number_in-is bs h f = rw (h, f) refl

number_in-err : (bs : List ℕ) (b : Bool) → is_number bs ≡ true → fits (value_of bs) ≡ b → ¬ (FitsSigned w128 (value_of bs)) → None ≡ number_in bs
number_in-err bs true h f refuted = absurd (refuted (FitsSigned-fits (value_of bs) f))
number_in-err bs false h f refuted = rw (h, f) refl

pub parse-number_in : {E : Type 0} (bs : List ℕ) (r : Result ℤ E) → is_number bs ≡ true → ParsesSigned w128 10 bs r → result_ok r ≡ number_in bs
parse-number_in bs (Ok z) h p =
    let same = signed_digits_value-value_of bs h in
    let range = rw same at p.0.1 in
    ap (λ y. Some y) (p.1 ∙ same) ∙ sym (number_in-is bs h (fits-FitsSigned (value_of bs) range))
parse-number_in bs (Err e) h p =
    let same = signed_digits_value-value_of bs h in
    let digits : IsNumeral 10 (without_leading_sign bs) = subst (λ ds. IsNumeral 10 ds) (sym (without_leading_sign-digits bs h)) (IsNumeral-digits (digits_of bs) h) in
    number_in-err bs (fits (value_of bs)) h refl (λ range. p (digits, subst (FitsSigned w128) (sym same) range))

-- what is written is read back
number_in-digits : (ds : List ℕ) → are_digits ds ≡ true → digits_value 10 ds < 2 ^ 127 → number_in ds ≡ Some (pos (digits_value 10 ds))
number_in-digits ds h small =
    let plain : is_negative ds ≡ false = no_minus ds h in
    let small' : nat_lt (digits_value 10 ds) (2 ^ 127) ≡ true = grind arith in
    rw (plain, h, small') refl

number_in-minus : (ds : List ℕ) (n : ℕ) → are_digits ds ≡ true → digits_value 10 ds ≡ suc n → n < 2 ^ 127 → number_in (45 ∷ ds) ≡ Some (negsuc n)
number_in-minus ds n h e small =
    let small' : nat_lt n (2 ^ 127) ≡ true = grind arith in
    rw (h, e, small') refl

are_digits-decimal : (n : ℕ) → n < 10 ^ 39 → are_digits (decimal n) ≡ true
are_digits-decimal n h =
    are_digits-IsNumeral (decimal n) (decimal_is_IsNumeral_wide n (omega arith)).0 (length-decimal-le_wide 39 n (omega arith) h (omega arith))

pub number_in-signed_decimal : (z : ℤ) → FitsSigned w128 z → number_in (signed_decimal z) ≡ Some z
number_in-signed_decimal (pos n) h =
    let small : n < 2 ^ 127 = h.sfits in
    let value = (decimal_is_IsNumeral_wide n (omega arith)).1 in
    number_in-digits (decimal n) (are_digits-decimal n (omega arith)) (rw value small) ∙ ap (λ m. Some (pos m)) value
number_in-signed_decimal (negsuc n) h =
    let small : n < 2 ^ 127 = h.sfits in
    number_in-minus (decimal (suc n)) n (are_digits-decimal (suc n) (omega arith)) (decimal_is_IsNumeral_wide (suc n) (omega arith)).1 small
