-- Amounts that a call is given (ERTP): what is read as one, of values of each kind.
use Rattle.std.specs.Prelude.{ℕ, ◌==◌, ◌&&◌, List, [], ◌∷◌, Bool, true, false, Result, Ok, if◌then◌else◌}
use Rattle.std.specs.Str.{bytes_eq}
use Rattle.refusals.specs.amount_math.Content.{entries}
use Rattle.refusals.specs.amount_math.ValueView.{ValueView}
use Rattle.refusals.specs.amount_math.declared.Kind.{Kind}
use Rattle.refusals.specs.host_data.Tree.{Tree, is_null}
use Rattle.refusals.specs.host_data.Amounts.{amount_fields, value_in}
use Rattle.refusals.specs.Codes.{bad_args, bad_value, wrong_amount, wrong_brand}
use Rattle.refusals.specs.Outcomes.{◌>>=◌, ◌>>◌, need, wanted}
use Rattle.refusals.specs.declared.codes.Refusal.{Refusal}

-- an amount of the brand, of which the values are of the kind
unfoldable pub amount_in : ℕ → Kind → ℕ → Tree → Result ValueView Refusal
amount_in brand kind place t = do
  parts ← wanted (amount_fields t) (bad_args place)
  need (parts.brand == brand) (wrong_brand parts.brand)
  wanted (value_in kind parts.value) bad_value

-- the same keys as often, in their order
abbrev pub same_entries : List (List ℕ × ℕ) → List (List ℕ × ℕ) → Bool
same_entries [] [] = true
same_entries [] (f ∷ fs) = false
same_entries (e ∷ es) [] = false
same_entries (e ∷ es) (f ∷ fs) = (bytes_eq e.0 f.0 && e.1 == f.1) && same_entries es fs

-- two values of one kind are one
unfoldable pub is_same : ValueView → ValueView → Bool
is_same a b = same_entries (entries a.content) (entries b.content)

-- null, or the amount that is held
unfoldable pub held_in : ℕ → ValueView → ℕ → Tree → Result (Unit {0}) Refusal
held_in brand held place t = if is_null t then Ok tt else do
  named ← amount_in brand held.kind place t
  need (is_same held named) (wrong_amount held named)
