-- The place of a name in a list of names, and what an index of them has to be.
use Rattle.std.specs.Prelude.{◌≡◌, ℕ, suc, List, [], ◌∷◌, ◌++◌, map, length, take, Option, Some, None, option_map, String, if◌then◌else◌}
use Rattle.std.specs.Str.{bytes_eq}
use Rattle.std.specs.declared.alloc.Global.{Global}
use Rattle.std.specs.BTreeMap.{BTreeMap, get_by_text}

abbrev pub or_here : Option ℕ → Option ℕ → Option ℕ
or_here (Some i) here = Some i
or_here None here = here

-- the place of the last of these names that is the name
abbrev pub place : List ℕ → List (List ℕ) → Option ℕ
place x [] = None
place x (y ∷ ys) = or_here (option_map suc (place x ys)) (if bytes_eq y x then Some 0 else None)

abbrev pub names_of : {V : Type 0} → List (List ℕ × V) → List (List ℕ)
names_of bs = map (λ b. b.0) bs

-- each stands beside the place of the one before it that it hides, where these are at the front
abbrev pub Hide : List (List ℕ) → List (List ℕ × Option ℕ) → Type 0
Hide front [] = Unit {0}
Hide front (e ∷ es) = (e.1 ≡ place e.0 front) × Hide (front ++ e.0 ∷ []) es

-- each name is found at its last place, and stands beside the place of the one that it hides
pub record IsIndex (es : List (List ℕ × Option ℕ)) (places : BTreeMap (String Global) ℕ) : Type 0 where
  pub finds : (x : List ℕ) → get_by_text places x ≡ place x (names_of es)
  pub hides : Hide [] es

-- these are the names at the front
abbrev pub IsFront : List (List ℕ) → List (List ℕ) → Type 0
IsFront front names = front ≡ take (length front) names
