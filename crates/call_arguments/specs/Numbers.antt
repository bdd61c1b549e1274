-- Lists of numbers of objects, as of payments: the first that stands there twice, and the least that fails a test.
use Rattle.std.specs.Prelude.{◌≢◌, ℕ, ◌==◌, min, List, [], ◌∷◌, ◌++◌, filter, Bool, not, Option, Some, None, if◌then◌else◌}
use Rattle.std.specs.List.{list_any}

-- the lesser of two numbers, where there are
abbrev pub least_of : Option ℕ → Option ℕ → Option ℕ
least_of None other = other
least_of (Some n) None = Some n
least_of (Some n) (Some m) = Some (min n m)

abbrev pub least : List ℕ → Option ℕ
least [] = None
least (n ∷ ns) = least_of (Some n) (least ns)

-- the least of those that fail a test
unfoldable pub least_failing : (ℕ → Bool) → List ℕ → Option ℕ
least_failing passes ns = least (filter (λ n. not (passes n)) ns)

abbrev pub is_among : List ℕ → ℕ → Bool
is_among ns n = list_any (λ m. m == n) ns

-- the first that stands among those before it
abbrev pub first_again : List ℕ → List ℕ → Option ℕ
first_again before [] = None
first_again before (n ∷ ns) = if is_among before n then Some n else first_again (before ++ n ∷ []) ns

unfoldable pub first_repeated : List ℕ → Option ℕ
first_repeated ns = first_again [] ns

-- it is none of them
abbrev pub IsNoneOf : List ℕ → ℕ → Type 0
IsNoneOf [] n = Unit {0}
IsNoneOf (m ∷ ms) n = (m ≢ n) × IsNoneOf ms n

-- none stands twice
abbrev pub AreApart : List ℕ → Type 0
AreApart [] = Unit {0}
AreApart (n ∷ ns) = IsNoneOf ns n × AreApart ns
