-- Where the code stands in an evaluation, as the rules see it.
use Rattle.std.specs.Prelude.{ℕ, ℤ, Bool, zero, suc, List, [], ◌∷◌, map, Option, Some, None, option_map, Vec, if◌then◌else◌}
use Rattle.std.specs.Str.{bytes_eq}
use Rattle.std.specs.declared.alloc.Global.{Global}
use Rattle.jessie_semantics.specs.host_data.Tree.{Tree, null, boolean, number}
use Rattle.jessie_semantics.specs.host_data.View.{tree, trees, named_trees}
use Rattle.jessie_semantics.specs.host_data.declared.data.Data.{Data}
use Rattle.jessie_index.specs.jessie_grammar.declared.syntax.Operator.{Operator}
use Rattle.jessie_semantics.specs.Actions.{Bindings, State, Action, ◌>>=◌, first_of}
use Rattle.jessie_semantics.specs.Rules.{End, next, leaves, operator_rule}
use Rattle.jessie_semantics.specs.Runs.{Computes, came}
use Rattle.jessie_machine.specs.declared.machine.Machine.{Machine}
use Rattle.jessie_machine.specs.declared.numbers.Worked.{Worked}
use Rattle.jessie_machine.specs.declared.numbers.Worked.TheVariants.{Number, Truth}
use Rattle.jessie_machine.specs.declared.machine.End.{End as CodeEnd}
use Rattle.jessie_machine.specs.declared.machine.End.TheVariants.{Next, Leaves}

abbrev pub head_or : {A : Type 0} → A → List A → A
head_or other [] = other
head_or other (x ∷ xs) = x

abbrev pub tail_of : {A : Type 0} → List A → List A
tail_of [] = []
tail_of (x ∷ xs) = xs

abbrev pub or_else : {A : Type 0} → Option A → A → A
or_else (Some a) other = a
or_else None other = other

-- the state variables: each has the value that it was given, if any, else its old one
abbrev pub current : List (List ℕ) → List Tree → List (Option Tree) → Bindings
current [] vs cs = []
current (x ∷ xs) vs cs = (x, or_else (head_or None cs) (head_or null vs)) ∷ current xs (tail_of vs) (tail_of cs)

-- the value at a place
abbrev pub value_at : List Tree → List (Option Tree) → ℕ → Tree
value_at vs cs zero = or_else (head_or None cs) (head_or null vs)
value_at vs cs (suc i) = value_at (tail_of vs) (tail_of cs) i

abbrev pub changes : List (Option Data) → List (Option Tree)
changes cs = map (λ c. option_map tree c) cs

-- of a module with these state variables, which had these values
abbrev pub state : List (List ℕ) → List Tree → Machine → State
state names values m = record { locals = named_trees m.locals; globals = current names values (changes m.changed.items); meter = m.meter }

abbrev pub end_of : CodeEnd → End
end_of Next = next
end_of (Leaves d) = leaves (tree d)

abbrev pub all_seen : Vec Data Global → List Tree
all_seen v = trees v.items

abbrev pub fields_seen : Vec (List ℕ × Data) Global → Bindings
fields_seen v = named_trees v.items

-- the value that was given at a place
abbrev pub changed_at : List (Option Tree) → ℕ → Option Tree
changed_at [] i = None
changed_at (c ∷ cs) zero = c
changed_at (c ∷ cs) (suc i) = changed_at cs i

-- the value of the binding at a place, and with another there
abbrev pub local_at : Bindings → ℕ → Tree
local_at [] i = null
local_at (b ∷ bs) zero = b.1
local_at (b ∷ bs) (suc i) = local_at bs i

abbrev pub set_value : Bindings → ℕ → Tree → Bindings
set_value [] i v = []
set_value (b ∷ bs) zero v = (b.0, v) ∷ bs
set_value (b ∷ bs) (suc i) v = b ∷ set_value bs i v

-- the place of the last of these names that is the name
abbrev pub place : List ℕ → List (List ℕ) → Option ℕ
place x [] = None
place x (y ∷ ys) = first_of (option_map suc (place x ys)) (if bytes_eq y x then Some 0 else None)

-- where these are the function's own names, and so much is left of the meter
abbrev pub standing : Bindings → Bindings → ℕ → State
standing locals globals n = record { locals = locals; globals = globals; meter = n }

-- what is done comes to this number, and takes the meter from one value to another
abbrev pub Makes : Action Tree → Bindings → ℕ → ℤ → ℕ → Type 0
Makes a locals before n after = (globals : Bindings) → Computes a (standing locals globals before) (came (number n)) (standing locals globals after)

-- what is done, and an operator behind it with its operand, come to this truth value
abbrev pub Decides : Action Tree → Operator → Action Tree → Bindings → ℕ → Bool → ℕ → Type 0
Decides a op b locals before t after = (globals : Bindings) → Computes (a >>= operator_rule op b) (standing locals globals before) (came (boolean t)) (standing locals globals after)

-- what numbers at hand come to
abbrev pub worked_tree : Worked → Tree
worked_tree (Number z) = number z
worked_tree (Truth b) = boolean b
