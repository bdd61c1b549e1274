-- What the first fault and what stands mean, in a text's name uses.
use Rattle.std.specs.Prelude.{◌≡◌, ℕ, zero, suc, List, [], ◌∷◌, ◌++◌, Some, None}
use Rattle.jessie_grammar.specs.declared.jessie_scopes.name_use.NameUse.{NameUse}
use Rattle.jessie_grammar.specs.declared.jessie_scopes.name_use.NameUse.TheVariants as e
use Rattle.jessie_grammar.specs.declared.jessie_scopes.scopes.Entry.{Entry}
use Rattle.jessie_grammar.specs.declared.jessie_scopes.scopes.Entry.TheVariants as entry
use Rattle.jessie_grammar.specs.Scopes.{Found, globals, fault, after, first_fault}

-- what stands after these name uses, the last first
abbrev pub standing : List NameUse → List Entry
standing [] = []
standing (x ∷ xs) = after x (standing xs)

-- what an name use puts there
abbrev pub put_by : NameUse → List Entry
put_by e.Opens = entry.Opening ∷ []
put_by e.Closes = []
put_by (e.Defines at x b) = entry.Name x b ∷ []
put_by (e.Declares at x) = []
put_by (e.Binds x b) = entry.Name x b ∷ []
put_by (e.Uses at x) = []
put_by (e.Calls at x) = []
put_by (e.Assigns at x) = []
put_by (e.Field at x) = entry.Field x ∷ []
put_by (e.Shorthand at x) = entry.Field x ∷ []

-- going back over the name uses, the last first, where so many blocks that were closed are still to be left:
-- what they put there outside of these
abbrev pub open_in : ℕ → List NameUse → List Entry
open_in d [] = []
open_in d (e.Closes ∷ xs) = open_in (suc d) xs
open_in (suc d) (e.Opens ∷ xs) = open_in d xs
open_in (suc d) (x ∷ xs) = open_in (suc d) xs
open_in zero (x ∷ xs) = open_in zero xs ++ put_by x

-- what stands is what was put there, but for what stands in blocks that were closed
abbrev pub OpenBlocksStand : Type 0
OpenBlocksStand = (xs : List NameUse) → standing xs ≡ open_in zero xs

-- the name uses before one, the last first
abbrev pub backwards : List NameUse → List NameUse → List NameUse
backwards before [] = before
backwards before (x ∷ xs) = backwards (x ∷ before) xs

-- nothing is wrong with any of these, after those before them
abbrev pub NoneIsWrong : List NameUse → Type 0
NoneIsWrong xs = (front : List NameUse) (x : NameUse) (later : List NameUse) → xs ≡ front ++ x ∷ later → fault (globals xs) (standing (backwards [] front)) x ≡ None

-- this is wrong with an name use, and nothing with those before it
abbrev pub IsFirstWrong : List NameUse → Found → Type 0
IsFirstWrong xs found = (front : List NameUse) × (x : NameUse) × (later : List NameUse) × (xs ≡ front ++ x ∷ later) × (fault (globals xs) (standing (backwards [] front)) x ≡ found)
    × ((first : List NameUse) (y : NameUse) (rest : List NameUse) → front ≡ first ++ y ∷ rest → fault (globals xs) (standing (backwards [] first)) y ≡ None)

abbrev pub IsToldOf : List NameUse → Found → Type 0
IsToldOf xs None = NoneIsWrong xs
IsToldOf xs (Some f) = IsFirstWrong xs (Some f)

-- the first fault is that of the first name use with which something is wrong, by what stands before it
abbrev pub FirstIsTold : Type 0
FirstIsTold = (xs : List NameUse) → IsToldOf xs (first_fault xs)
