-- Numbers in decimal are read as they are written.
use Rattle.std.proofs.Common.{Bool, true, false, ◌&&◌, cond, ◌≡◌, ◌<◌, ◌^◌, ℕ, ℤ, List, [], ◌∷◌, ◌++◌, Option, Some, None, Result, Ok, Err, length, FitsSigned, pos, negsuc, refl, sym, ap, subst, ◌∙◌, arith}
use Rattle.std.proofs.lemmas.Slice.Eq.{bytes_eq-Decides}
use Rattle.std.specs.Bool.{Decides}
use Rattle.std.specs.Str.{bytes_eq}
use Rattle.std.proofs.lemmas.Fmt.{decimal_is_IsNumeral_wide, length-decimal-le_wide}
use Rattle.std.specs.Fmt.{decimal, signed_decimal}
use Rattle.std.specs.Int.{w128}
use Rattle.std.specs.Result.{result_ok}
use Rattle.std.specs.Str.Parse.{IsNumeral, ParsesUnsigned, digits_value, without_leading_plus}
use Rattle.host_text.proofs.Decimal.{FitsSigned-fits, are_digits-IsNumeral, no_plus, number_in-signed_decimal}
use Rattle.host_text.specs.Numbers.{fits as is_within, is_number, number_in, value_of}
use Rattle.turn_rows.specs.Form.{IsWideNumber, IsWideText}

pub value-decimal : (n : ℕ) → n < 2 ^ 128 → digits_value 10 (decimal n) ≡ n
value-decimal n small = (decimal_is_IsNumeral_wide n (omega arith)).1

plus-decimal : (n : ℕ) → n < 2 ^ 128 → without_leading_plus (decimal n) ≡ decimal n
plus-decimal n small =
    no_plus (decimal n) (are_digits-IsNumeral (decimal n) (decimal_is_IsNumeral_wide n (omega arith)).0 (length-decimal-le_wide 39 n (omega arith) (omega arith) (omega arith)))

pub one_number : (m n : ℕ) → m < 2 ^ 128 → n < 2 ^ 128 → decimal m ≡ decimal n → m ≡ n
one_number m n small low same = sym (value-decimal m small) ∙ ap (digits_value 10) same ∙ value-decimal n low

pub parsed_none : {E : Type 0} (text : List ℕ) (r : Result ℕ E) → ParsesUnsigned 128 10 text r → result_ok r ≡ None → (n : ℕ) → n < 2 ^ 128 → text ≡ decimal n → ⊥
parsed_none text (Ok m) p none n small same = absurd (cc)
parsed_none text (Err e) p none n small same =
    let digits : without_leading_plus text ≡ decimal n = ap without_leading_plus same ∙ plus-decimal n small in
    p (rw digits ((decimal_is_IsNumeral_wide n (omega arith)).0, rw (value-decimal n small) small))

pub parsed_some : {E : Type 0} (text : List ℕ) (r : Result ℕ E) (m : ℕ) → ParsesUnsigned 128 10 text r → result_ok r ≡ Some m → (n : ℕ) → n < 2 ^ 128 → text ≡ decimal n → m ≡ n
parsed_some text (Err e) m p some n small same = absurd (cc)
parsed_some text (Ok k) m p some n small same =
    let digits : without_leading_plus text ≡ decimal n = ap without_leading_plus same ∙ plus-decimal n small in
    let read : k ≡ m = cc in
    sym read ∙ p.1 ∙ ap (digits_value 10) digits ∙ value-decimal n small

-- ---- numbers of 128 bits either way

fits : (z : ℤ) → IsWideNumber z → FitsSigned w128 z
fits (pos n) h = record { sfits = omega (arith, h.1) }
fits (negsuc n) h = record { sfits = omega (arith, h.1) }

pub wide_none : (text : List ℕ) → number_in text ≡ None → IsWideText text → ⊥
wide_none text none h =
    let read : number_in text ≡ Some h.number = ap number_in h.is ∙ number_in-signed_decimal h.number (fits h.number h.wide) in
    absurd (cc)

pub wide_some : (text : List ℕ) (z : ℤ) → number_in text ≡ Some z → (h : IsWideText text) → z ≡ h.number
wide_some text z some h =
    let read : number_in text ≡ Some h.number = ap number_in h.is ∙ number_in-signed_decimal h.number (fits h.number h.wide) in
    cc

-- a number that was read has 128 bits
was_within : (a b : Bool) (v z : ℤ) → is_within v ≡ b → cond (a && b) (Some v) None ≡ Some z → is_within z ≡ true
was_within true true v z is some = let same : v ≡ z = cc in subst (λ n. is_within n ≡ true) same is
was_within true false v z is some = absurd (cc)
was_within false b v z is some = absurd (cc)

pub read_fits : (text : List ℕ) (z : ℤ) → number_in text ≡ Some z → FitsSigned w128 z
read_fits text z some = FitsSigned-fits z (was_within (is_number text) (is_within (value_of text)) (value_of text) z refl some)

pub wide_text : (text : List ℕ) (z : ℤ) (written : List ℕ) (eq : Bool) → number_in text ≡ Some z → IsWideNumber z → written ≡ signed_decimal z → eq ≡ bytes_eq written text → Decides eq (IsWideText text)
wide_text text z written eq some wide is test = (there, back)
  where
    there : eq ≡ true → IsWideText text
    there h = record { number = z; wide = wide; is = sym ((bytes_eq-Decides written text).0 (sym test ∙ h)) ∙ is }

    back : IsWideText text → eq ≡ true
    back h = test ∙ (bytes_eq-Decides written text).1 (is ∙ ap signed_decimal (wide_some text z some h) ∙ sym h.is)

pub narrow_text : (text : List ℕ) (z : ℤ) (b : Bool) → number_in text ≡ Some z → b ≡ false → (IsWideNumber z → b ≡ true) → Decides b (IsWideText text)
narrow_text text z b some narrow wide = ((λ (h : b ≡ true). absurd (cc (sym narrow ∙ h))), (λ (h : IsWideText text). wide (subst IsWideNumber (sym (wide_some text z some h)) h.wide)))

pub no_text : (text : List ℕ) (b : Bool) → number_in text ≡ None → b ≡ false → Decides b (IsWideText text)
no_text text b none is = ((λ (h : b ≡ true). absurd (cc (sym is ∙ h))), (λ (h : IsWideText text). absurd (wide_none text none h)))
