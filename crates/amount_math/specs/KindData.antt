-- What a set or a bag is made from.
use Rattle.std.specs.Prelude.{ℕ, List, map, ℤ, pos}
use Rattle.std.specs.List.Sorted.{IsPermutation}
use Rattle.amount_math.specs.Content.{Content, entries}

-- the keys of a content, each once, in any order
abbrev pub IsKeysOf : List (List ℕ) → Content → Type 0
IsKeysOf keys c = IsPermutation keys (map (λ e. e.0) (entries c))

-- a key with its count as any whole number
abbrev pub signed : List ℕ × ℕ → List ℕ × ℤ
signed e = (e.0, pos e.1)

-- the keys of a content, each once with its count, in any order
abbrev pub IsPairsOf : List (List ℕ × ℤ) → Content → Type 0
IsPairsOf pairs c = IsPermutation pairs (map signed (entries c))
