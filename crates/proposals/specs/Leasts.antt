-- The least of numbers, where there are any.
use Rattle.std.specs.Prelude.{ℕ, min, List, [], ◌∷◌, Option, Some, None}

-- the lesser of two numbers, where there are
abbrev pub least_of : Option ℕ → Option ℕ → Option ℕ
least_of None other = other
least_of (Some n) None = Some n
least_of (Some n) (Some m) = Some (min n m)

abbrev pub least : List ℕ → Option ℕ
least [] = None
least (n ∷ ns) = least_of (Some n) (least ns)
