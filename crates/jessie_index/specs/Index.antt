-- What an index of functions by name has to be.
use Rattle.std.specs.Prelude.{◌≡◌, ℕ, suc, List, [], ◌∷◌, Option, Some, None, option_map, String, if◌then◌else◌}
use Rattle.std.specs.Str.{bytes_eq}
use Rattle.std.specs.declared.alloc.Global.{Global}
use Rattle.std.specs.BTreeMap.{BTreeMap, get_by_text}
use Rattle.jessie_semantics.specs.jessie_grammar.declared.syntax.Function.{Function}

-- the place of the first function of the name
abbrev pub first_place : List ℕ → List Function → Option ℕ
first_place x [] = None
first_place x (f ∷ fs) = if bytes_eq f.name x then Some 0 else option_map suc (first_place x fs)

-- each name is found at the place of its first function
abbrev pub IsIndexOf : List Function → BTreeMap (String Global) ℕ → Type 0
IsIndexOf fs places = (x : List ℕ) → get_by_text places x ≡ first_place x fs

-- a name has this place, and each other name the one that it had
abbrev pub IsPut : BTreeMap (String Global) ℕ → BTreeMap (String Global) ℕ → List ℕ → ℕ → Type 0
IsPut old new x i =
    (q : List ℕ) → get_by_text new q ≡ (if bytes_eq x q then Some i else get_by_text old q)
