-- Names of objects, as tests of a text's bytes.
use Rattle.std.specs.Prelude.{ℕ, List, Bool, ◌&&◌, ◌==◌, nat_lt, length, drop, decimal}
use Rattle.std.specs.List.{starts_with}
use Rattle.std.specs.Str.{bytes_eq}
use Rattle.std.specs.Str.Parse.{digits_value}

-- digits that write a number as rows do, below the end
abbrev pub is_number_below : ℕ → List ℕ → Bool
is_number_below end ds = bytes_eq (decimal (digits_value 10 ds)) ds && nat_lt (digits_value 10 ds) end

-- the text is the word with such a number behind it
abbrev pub has_number : ℕ → List ℕ → List ℕ → Bool
has_number end s word = starts_with (λ m n. m == n) s word && is_number_below end (drop (length word) s)
