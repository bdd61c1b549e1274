-- The first fault of what a text does with names.
use Rattle.std.specs.Prelude.{ℕ, Bool, true, false, ◌||◌, ◌&&◌, if◌then◌else◌, List, [], ◌∷◌, ◌++◌, reverse, Option, Some, None}
use Rattle.std.specs.Str.{bytes_eq}
use Rattle.jessie_grammar.specs.declared.jessie_scopes.name_use.Binding.{Binding}
use Rattle.jessie_grammar.specs.declared.jessie_scopes.name_use.Binding.TheVariants as b
use Rattle.jessie_grammar.specs.declared.jessie_scopes.name_use.NameUse.{NameUse}
use Rattle.jessie_grammar.specs.declared.jessie_scopes.name_use.NameUse.TheVariants as e
use Rattle.jessie_grammar.specs.declared.jessie_scopes.name_use.NameFault.{NameFault}
use Rattle.jessie_grammar.specs.declared.jessie_scopes.name_use.NameFault.TheVariants as f
use Rattle.jessie_grammar.specs.declared.jessie_scopes.scopes.Entry.{Entry}
use Rattle.jessie_grammar.specs.declared.jessie_scopes.scopes.Entry.TheVariants as entry
use Rattle.jessie_grammar.specs.Reserved.{is_reserved, is_built_in}

-- ---- the names of the module, which are known everywhere; of two that are one name the first counts

abbrev pub Global : Type 0
Global = List ℕ × Binding

abbrev pub globals : List NameUse → List Global
globals [] = []
globals (e.Defines at x b ∷ es) = (x, b) ∷ globals es
globals (_ ∷ es) = globals es

abbrev pub first_of : List ℕ → List Global → Option Binding
first_of x [] = None
first_of x (g ∷ gs) = if bytes_eq g.0 x then Some g.1 else first_of x gs

abbrev pub is_called : Binding → Bool
is_called b.Function = true
is_called _ = false

-- a function has the name
abbrev pub is_function : List ℕ → List Global → Bool
is_function x [] = false
is_function x (g ∷ gs) = (bytes_eq g.0 x && is_called g.1) || is_function x gs

-- ---- what stands so far in all that is open, the innermost last; each part of it begins with an opening

-- the name stands in the innermost
abbrev pub stands_in : List ℕ → Bool → List Entry → Bool
stands_in x found [] = found
stands_in x found (entry.Opening ∷ es) = stands_in x false es
stands_in x found (entry.Name y b ∷ es) = stands_in x (found || bytes_eq y x) es
stands_in x found (entry.Field y ∷ es) = stands_in x (found || bytes_eq y x) es

abbrev pub stands : List ℕ → List Entry → Bool
stands x es = stands_in x false es

-- what the name stands for: of several the innermost counts
abbrev pub last_of : List ℕ → Option Binding → List Entry → Option Binding
last_of x found [] = found
last_of x found (entry.Opening ∷ es) = last_of x found es
last_of x found (entry.Name y b ∷ es) = last_of x (if bytes_eq y x then Some b else found) es
last_of x found (entry.Field y ∷ es) = last_of x found es

abbrev pub known : List Global → List Entry → List ℕ → Option Binding
known gs es x = last_of x (first_of x gs) es

-- what stands around the innermost
abbrev pub behind_opening : List Entry → List Entry
behind_opening [] = []
behind_opening (entry.Opening ∷ es) = es
behind_opening (_ ∷ es) = behind_opening es

abbrev pub around : List Entry → List Entry
around es = reverse (behind_opening (reverse es))

-- ---- faults: of several at one place the first of reserved, duplicate, unknown, assigned

abbrev pub Found : Type 0
Found = Option (ℕ × NameFault)

abbrev pub declares : List Entry → ℕ → List ℕ → Found
declares es at x = if is_reserved x then Some (at, f.Reserved) else if stands x es then Some (at, f.Duplicate) else None

abbrev pub reads : Option Binding → ℕ → Found
reads (Some b) at = None
reads None at = Some (at, f.Unknown)

abbrev pub uses : List Global → List Entry → ℕ → List ℕ → Found
uses gs es at x = if is_reserved x then Some (at, f.Reserved) else reads (known gs es x) at

-- a call by name looks up functions and built-in names alone
abbrev pub calls : List Global → ℕ → List ℕ → Found
calls gs at x =
    if is_built_in x then None else if is_reserved x then Some (at, f.Reserved) else if is_function x gs then None else Some (at, f.Unknown)

abbrev pub writes : Option Binding → ℕ → Found
writes (Some b.Variable) at = None
writes (Some b.Constant) at = Some (at, f.AssignConst)
writes (Some b.Function) at = Some (at, f.AssignConst)
writes None at = Some (at, f.Unknown)

abbrev pub assigns : List Global → List Entry → ℕ → List ℕ → Found
assigns gs es at x = if is_reserved x then Some (at, f.Reserved) else writes (known gs es x) at

abbrev pub fills : List Entry → ℕ → List ℕ → Found
fills es at x = if stands x es then Some (at, f.Duplicate) else None

abbrev pub shortens : List Global → List Entry → ℕ → List ℕ → Found
shortens gs es at x = if is_reserved x then Some (at, f.Reserved) else if stands x es then Some (at, f.Duplicate) else reads (known gs es x) at

abbrev pub fault : List Global → List Entry → NameUse → Found
fault gs es e.Opens = None
fault gs es e.Closes = None
fault gs es (e.Defines at x b) = declares es at x
fault gs es (e.Declares at x) = declares es at x
fault gs es (e.Binds x b) = None
fault gs es (e.Uses at x) = uses gs es at x
fault gs es (e.Calls at x) = calls gs at x
fault gs es (e.Assigns at x) = assigns gs es at x
fault gs es (e.Field at x) = fills es at x
fault gs es (e.Shorthand at x) = shortens gs es at x

-- ---- what stands after an name use

abbrev pub after : NameUse → List Entry → List Entry
after e.Opens es = es ++ entry.Opening ∷ []
after e.Closes es = around es
after (e.Defines at x b) es = es ++ entry.Name x b ∷ []
after (e.Declares at x) es = es
after (e.Binds x b) es = es ++ entry.Name x b ∷ []
after (e.Uses at x) es = es
after (e.Calls at x) es = es
after (e.Assigns at x) es = es
after (e.Field at x) es = es ++ entry.Field x ∷ []
after (e.Shorthand at x) es = es ++ entry.Field x ∷ []

abbrev pub or_else : Found → Found → Found
or_else None later = later
or_else (Some f) later = Some f

-- the first fault, in the text's order
unfoldable pub first : List Global → List Entry → List NameUse → Found
first gs es [] = None
first gs es (x ∷ xs) = or_else (fault gs es x) (first gs (after x es) xs)

abbrev pub first_fault : List NameUse → Found
first_fault xs = first (globals xs) [] xs
