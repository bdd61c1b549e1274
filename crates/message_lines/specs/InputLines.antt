-- The lines of an input, and the limits on both.
use Rattle.std.specs.Prelude.{ℕ, ◌^◌, ◌==◌, ◌||◌, List, [], length, Bool, nat_lt}
use Rattle.std.specs.Prelude.{Option, Some, None}
use Rattle.std.specs.Borrow.{Bor}
use Rattle.std.specs.List.{slice_split, list_all, list_any}

-- the parts between line feeds; what stands after the last one is a line too, perhaps an empty one
unfoldable pub lines_of : List ℕ → List (List ℕ)
lines_of bytes = slice_split (λ b. b == 10) bytes

-- space, tab, carriage return
abbrev pub is_space : ℕ → Bool
is_space b = b == 32 || b == 9 || b == 13

-- a line that has only spaces, tabs and carriage returns, perhaps none
abbrev pub is_blank : List ℕ → Bool
is_blank line = list_all is_space line

-- the most bytes of a line
abbrev pub max_line : ℕ
max_line = 2 ^ 20

-- the most bytes of an input
abbrev pub max_input : ℕ
max_input = 2 ^ 30

abbrev pub is_long : List ℕ → Bool
is_long line = nat_lt max_line (length line)

-- the input passes one of the limits
unfoldable pub is_too_long : List ℕ → Bool
is_too_long input = nat_lt max_input (length input) || list_any is_long (lines_of input)

-- the lines of what is left, if anything is
abbrev pub lines_left : Option (Bor (List ℕ)) → List (List ℕ)
lines_left None = []
lines_left (Some rest) = lines_of rest.now
