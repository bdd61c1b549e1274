-- What a function of values gives: a value, or why the step is bad.
use Rattle.std.specs.Prelude.{◌≡◌, Option, Some, None, Result, Ok, Err}
use Rattle.jessie_values.specs.declared.reasons.Reason.{Reason}
use Rattle.jessie_values.specs.declared.reasons.Reason.TheVariants.{WrongKind, NoField}
use Rattle.jessie_values.specs.declared.reasons.ValueFault.{ValueFault}
use Rattle.jessie_values.specs.declared.reasons.ValueFault.TheVariants.{NoMemory, BadStep}

-- one step after another, on what the one before gave
infixl 10 ◌>>=◌
abbrev pub ◌>>=◌ : {A B : Type 0} → Result A Reason → (A → Result B Reason) → Result B Reason
Ok x >>= f = f x
Err r >>= f = Err r

-- a part that is wanted to be of its kind
abbrev pub of_kind : {A : Type 0} → Option A → Result A Reason
of_kind (Some x) = Ok x
of_kind None = Err WrongKind

-- a part that is wanted to be there
abbrev pub there : {A : Type 0} → Option A → Result A Reason
there (Some x) = Ok x
there None = Err NoField

-- what a function returned, where its value is seen by a view
abbrev pub seen : {X Y : Type 0} → (X → Y) → Result X Reason → Result Y Reason
seen view (Ok x) = Ok (view x)
seen view (Err r) = Err r

-- What a function that takes memory returned, seen by a view, is what the definition gives, unless memory ran out.
abbrev pub Fails : {Y : Type 0} → ValueFault → Result Y Reason → Type 0
Fails NoMemory given = Unit {0}
Fails (BadStep r) given = given ≡ Err r

abbrev pub Gives : {X Y : Type 0} → (X → Y) → Result X ValueFault → Result Y Reason → Type 0
Gives view (Ok x) given = given ≡ Ok (view x)
Gives view (Err e) given = Fails e given
