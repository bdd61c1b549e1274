-- Lists that a call is given: amounts of one brand, and objects of one kind.
use Rattle.std.specs.Prelude.{ℕ, ◌+◌, ◌==◌, List, [], ◌∷◌, map, Option, Result, Ok}
use Rattle.refusals.specs.amount_math.ValueView.{ValueView}
use Rattle.refusals.specs.amount_math.declared.Kind.{Kind}
use Rattle.refusals.specs.host_data.Tree.{Tree}
use Rattle.refusals.specs.host_data.declared.data.ObjKind.{ObjKind}
use Rattle.refusals.specs.host_data.Amounts.{AmountData, amount_fields, read_all, value_in}
use Rattle.refusals.specs.Codes.{bad_args, bad_value, wrong_brand, wrong_object}
use Rattle.refusals.specs.Outcomes.{◌>>=◌, ◌>>◌, none_such, wanted}
use Rattle.refusals.specs.declared.codes.Refusal.{Refusal}
use Rattle.call_arguments.specs.Arguments.{object_in}
use Rattle.call_arguments.specs.Numbers.{least_failing}

-- ---- amounts

-- each item is an amount
unfoldable pub listed_in : ℕ → List Tree → Result (List AmountData) Refusal
listed_in place items = wanted (read_all amount_fields items) (bad_args place)

-- the least brand that is another one
abbrev pub least_other : ℕ → List AmountData → Option ℕ
least_other brand amounts = least_failing (λ n. n == brand) (map (λ a. a.brand) amounts)

-- the value of the kind that an amount has
abbrev pub value_of : Kind → AmountData → Option ValueView
value_of kind a = value_in kind a.value

unfoldable pub brand_values : Kind → List AmountData → Result (List ValueView) Refusal
brand_values kind amounts = wanted (read_all (value_of kind) amounts) bad_value

-- amounts of the brand, of which the values are of the kind; each test over all of them before the next
unfoldable pub amounts_listed : ℕ → Kind → ℕ → List Tree → Result (List ValueView) Refusal
amounts_listed brand kind place items = do
  amounts ← listed_in place items
  none_such (least_other brand amounts) wrong_brand
  brand_values kind amounts

-- ---- objects

-- objects of one kind in an array, by their numbers
unfoldable pub objects_in : ObjKind → ℕ → List Tree → Result (List ℕ) Refusal
objects_in kind place items = wanted (read_all (object_in kind) items) (wrong_object place)

-- each argument is one, or the first that isn't shows its own place
abbrev pub each_object : ObjKind → ℕ → List Tree → Result (List ℕ) Refusal
each_object kind place [] = Ok []
each_object kind place (t ∷ ts) = do
  n ← wanted (object_in kind t) (wrong_object place)
  ns ← each_object kind (place + 1) ts
  Ok (n ∷ ns)
