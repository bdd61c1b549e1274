-- The text of an invitation, and which one a text names.
use Rattle.std.proofs.Common.{◌≡◌, ℕ, zero, suc, ◌-◌, ◌<◌, ◌≤◌, ◌^◌, nat_lt, List, [], ◌++◌, Bool, true, false, length, replicate, refl, sym, ap, ◌∙◌, arith, Option, Some, None, IfSome, codes, eq-eqb}
use Rattle.std.proofs.lemmas.Fmt.{decimal_is_IsNumeral, length-decimal-le}
use Rattle.std.proofs.lemmas.List.{length-append, length-replicate, append_cancel_left, append-nil}
use Rattle.std.specs.Char.{is_ascii_digit}
use Rattle.std.specs.Cmp.Lexicographic.{slice_cmp}
use Rattle.std.specs.Fmt.{decimal, padded_integral, format_spec, char_count}
use Rattle.std.specs.List.{list_all}
use Rattle.std.specs.Ordering.{nat_cmp}
use Rattle.std.specs.Str.Parse.{AllDigits, digits_value, digits_value_after}
use Rattle.std.specs.declared.cmp.Ordering.TheVariants.{Less}
use Rattle.host_data.proofs.host_text.Decimal.{list_all-AllDigits, AllDigits-list_all}
use Rattle.turn_stores.specs.Elements.{ten_digits, element, are_ten_digits, number_in}
use Rattle.turn_stores.proofs.Digits.{same_digits, ordered}

digits_behind_zeros : (z : ℕ) (ds : List ℕ) → AllDigits 10 ds → AllDigits 10 (replicate z 48 ++ ds)
digits_behind_zeros zero ds h = h
digits_behind_zeros (suc z) ds h = (omega arith, digits_behind_zeros z ds h)

value_behind_zeros : (z : ℕ) (ds : List ℕ) → digits_value_after 10 0 (replicate z 48 ++ ds) ≡ digits_value_after 10 0 ds
value_behind_zeros zero ds = refl
value_behind_zeros (suc z) ds = value_behind_zeros z ds

AllDigits-ten_digits : (n : ℕ) → n < 2 ^ 32 → AllDigits 10 (ten_digits n)
AllDigits-ten_digits n h = digits_behind_zeros (10 - length (decimal n)) (decimal n) (decimal_is_IsNumeral n (omega arith)).0.1

value-ten_digits : (n : ℕ) → n < 2 ^ 32 → digits_value 10 (ten_digits n) ≡ n
value-ten_digits n h = value_behind_zeros (10 - length (decimal n)) (decimal n) ∙ (decimal_is_IsNumeral n (omega arith)).1

length-ten_digits : (n : ℕ) → n < 2 ^ 32 → length (ten_digits n) ≡ 10
length-ten_digits n h =
    let short : length (decimal n) ≤ 10 = length-decimal-le 10 n (omega arith) (omega arith) (omega arith) in
    length-append (replicate (10 - length (decimal n)) 48) (decimal n) ∙ omega (arith, length-replicate {A = ℕ} (10 - length (decimal n)) 48, short)

are_ten_digits-ten_digits : (n : ℕ) → n < 2 ^ 32 → are_ten_digits (ten_digits n) ≡ true
are_ten_digits-ten_digits n h = rw (eq-eqb (length (ten_digits n)) 10 (length-ten_digits n h), list_all-AllDigits (ten_digits n) (AllDigits-ten_digits n h)) refl

-- the number is read back
number_in-ten_digits : (n : ℕ) → n < 2 ^ 32 → number_in (ten_digits n) ≡ Some n
number_in-ten_digits n h =
    let small : nat_lt (digits_value 10 (ten_digits n)) (2 ^ 32) ≡ true = rw (value-ten_digits n h) (grind arith) in
    rw (are_ten_digits-ten_digits n h, small) (ap (λ m. Some m) (value-ten_digits n h))

digits_are : (ds : List ℕ) → are_ten_digits ds ≡ true → digits_value 10 ds < 2 ^ 32 → ds ≡ ten_digits (digits_value 10 ds)
digits_are ds h small =
    let long : length ds ≡ 10 = grind arith in
    let digits : list_all is_ascii_digit ds ≡ true = grind arith in
    same_digits ds (ten_digits (digits_value 10 ds)) (AllDigits-list_all ds digits) (AllDigits-ten_digits (digits_value 10 ds) small)
    (long ∙ sym (length-ten_digits (digits_value 10 ds) small)) (sym (value-ten_digits (digits_value 10 ds) small))

found_by : (b c : Bool) (ds : List ℕ) → are_ten_digits ds ≡ b → nat_lt (digits_value 10 ds) (2 ^ 32) ≡ c → IfSome (number_in ds) (λ n. ds ≡ ten_digits n)
found_by false c ds h s = rw h tt
found_by true false ds h s = rw (h, s) tt
found_by true true ds h s = let small : digits_value 10 ds < 2 ^ 32 = grind arith in rw (h, s) (digits_are ds h small)

found_in : (r : Option ℕ) (bs ds : List ℕ) → bs ≡ codes "inv:" ++ ds → IfSome r (λ n. ds ≡ ten_digits n) → IfSome r (λ n. bs ≡ element n)
unfolding element
found_in None bs ds e h = h
found_in (Some n) bs ds e h = e ∙ ap (λ (cs : List ℕ). codes "inv:" ++ cs) h

-- what is behind `inv:` tells the number
pub element_found : (bs ds : List ℕ) (r : Option ℕ) → bs ≡ codes "inv:" ++ ds → r ≡ number_in ds → IfSome r (λ n. bs ≡ element n)
element_found bs ds r e h = rw h (found_in (number_in ds) bs ds e (found_by (are_ten_digits ds) (nat_lt (digits_value 10 ds) (2 ^ 32)) ds refl refl))

pub element_all : (bs ds : List ℕ) (r : Option ℕ) → bs ≡ codes "inv:" ++ ds → r ≡ number_in ds → (n : ℕ) → n < 2 ^ 32 → bs ≡ element n → r ≡ Some n
unfolding element
element_all bs ds r e h n small is =
    let same : ds ≡ ten_digits n = append_cancel_left (codes "inv:") ds (ten_digits n) (sym e ∙ is) in
    h ∙ (ap (λ (cs : List ℕ). number_in cs) same ∙ number_in-ten_digits n small)

pub element_none : (bs : List ℕ) → ((rest : List ℕ) → bs ≡ codes "inv:" ++ rest → ⊥) → (n : ℕ) → bs ≡ element n → ⊥
unfolding element
element_none bs other n is = other (ten_digits n) is

-- texts stand in the order of numbers
pub elements_ordered : (m n : ℕ) → n < 2 ^ 32 → m < n → slice_cmp nat_cmp (element m) (element n) ≡ Less
unfolding element
elements_ordered m n h less =
    let small : m < 2 ^ 32 = omega arith in
    ordered (ten_digits m) (ten_digits n) 0 (AllDigits-ten_digits m small) (AllDigits-ten_digits n h)
    (length-ten_digits m small ∙ sym (length-ten_digits n h)) (rw (value-ten_digits m small, value-ten_digits n h) less)

-- what a hole of ten digits writes
pub padded-ten_digits : (n : ℕ) → padded_integral (format_spec 32 0 4 10 (2 ^ 64 - 1)) false [] (decimal n) ≡ ten_digits n
unfolding padded_integral char_count
padded-ten_digits n =
    let zeros : 10 - length (decimal n) - 0 - 0 ≡ 10 - length (decimal n) = omega arith in
    ap (λ (z : ℕ). replicate z 48 ++ (decimal n ++ [])) zeros ∙ ap (λ (ds : List ℕ). replicate (10 - length (decimal n)) 48 ++ ds) (append-nil (decimal n))
