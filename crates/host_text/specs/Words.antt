-- The forms of keywords, labels and field names, as tests of a text's bytes.
use Rattle.std.specs.Prelude.{ℕ, List, [], ◌∷◌, Bool, false, ◌&&◌, ◌||◌, not, ◌==◌, nat_le, length, codes}
use Rattle.std.specs.Char.{is_ascii_uppercase, is_ascii_lowercase, is_ascii_alphabetic, is_ascii_alphanumeric}
use Rattle.std.specs.List.{list_all}
use Rattle.std.specs.Str.{bytes_eq}

-- a letter, a digit or `_`
abbrev pub is_word_byte : ℕ → Bool
is_word_byte b = is_ascii_alphanumeric b || (b == 95)

-- a letter or `_`
abbrev pub is_name_start : ℕ → Bool
is_name_start b = is_ascii_alphabetic b || (b == 95)

-- a byte that passes the test, then letters, digits and `_`: 1 to `most` bytes in all
abbrev pub is_word : (ℕ → Bool) → ℕ → List ℕ → Bool
is_word begins most [] = false
is_word begins most (b ∷ bs) = (begins b && list_all is_word_byte bs) && nat_le (length (b ∷ bs)) most

-- `NaN` and `Infinity` are no keywords
abbrev pub is_reserved : List ℕ → Bool
is_reserved bs = bytes_eq bs (codes "NaN") || bytes_eq bs (codes "Infinity")

abbrev pub is_keyword : List ℕ → Bool
is_keyword bs = is_word is_ascii_uppercase 32 bs && not (is_reserved bs)

abbrev pub is_label : List ℕ → Bool
is_label bs = is_word is_ascii_lowercase 32 bs

abbrev pub is_field_name : List ℕ → Bool
is_field_name bs = is_word is_name_start 64 bs
