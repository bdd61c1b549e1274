-- A number of more than 128 bits, in two parts.
use Rattle.std.specs.Prelude.{ℕ, ◌+◌, ◌*◌, ◌^◌}

-- the number that the two parts are, of which the low one has 128 bits
abbrev pub number_of_parts : ℕ → ℕ → ℕ
number_of_parts high low = high * 2 ^ 128 + low
