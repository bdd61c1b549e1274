-- The text of an invitation, by which sets of them name it.
use Rattle.std.specs.Prelude.{ℕ, ◌-◌, ◌^◌, Bool, ◌&&◌, ◌==◌, nat_lt, if◌then◌else◌, List, ◌++◌, length, replicate, codes, Option, Some, None}
use Rattle.std.specs.Char.{is_ascii_digit}
use Rattle.std.specs.Fmt.{decimal}
use Rattle.std.specs.List.{list_all}
use Rattle.std.specs.Str.Parse.{digits_value}

-- a number in ten digits, zeros in front
abbrev pub ten_digits : ℕ → List ℕ
ten_digits n = replicate (10 - length (decimal n)) 48 ++ decimal n

unfoldable pub element : ℕ → List ℕ
element n = codes "inv:" ++ ten_digits n

abbrev pub are_ten_digits : List ℕ → Bool
are_ten_digits bs = (length bs == 10) && list_all is_ascii_digit bs

-- the number of 32 bits that ten digits write
abbrev pub number_in : List ℕ → Option ℕ
number_in bs = if are_ten_digits bs && nat_lt (digits_value 10 bs) (2 ^ 32) then Some (digits_value 10 bs) else None
