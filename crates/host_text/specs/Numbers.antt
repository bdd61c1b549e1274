-- Whole numbers of 128 signed bits as decimal text.
use Rattle.std.specs.Prelude.{ℕ, ℤ, pos, negsuc, neg_ℤ, ◌^◌, List, [], ◌∷◌, Bool, false, ◌&&◌, ◌==◌, nat_le, nat_lt, length, drop, slice_index, Option, Some, None, if◌then◌else◌}
use Rattle.std.specs.Char.{is_ascii_digit}
use Rattle.std.specs.List.{list_all}
use Rattle.std.specs.Str.Parse.{digits_value}

-- the text begins with `-`
abbrev pub is_negative : List ℕ → Bool
is_negative bs = slice_index bs 0 == 45

abbrev pub digits_of : List ℕ → List ℕ
digits_of bs = if is_negative bs then drop 1 bs else bs

-- 1 to 39 digits
abbrev pub are_digits : List ℕ → Bool
are_digits [] = false
are_digits (d ∷ ds) = list_all is_ascii_digit (d ∷ ds) && nat_le (length (d ∷ ds)) 39

-- a `-` where there is one, then 1 to 39 digits
abbrev pub is_number : List ℕ → Bool
is_number bs = are_digits (digits_of bs)

-- the number that the sign and the digits write
abbrev pub value_of : List ℕ → ℤ
value_of bs = if is_negative bs then neg_ℤ (pos (digits_value 10 (digits_of bs))) else pos (digits_value 10 (digits_of bs))

-- from -2^127 to 2^127 - 1
abbrev pub fits : ℤ → Bool
fits (pos n) = nat_lt n (2 ^ 127)
fits (negsuc n) = nat_lt n (2 ^ 127)

-- the number of a text that has the form of one in this range
abbrev pub number_in : List ℕ → Option ℤ
number_in bs = if is_number bs && fits (value_of bs) then Some (value_of bs) else None
