-- The steps behind a value that ask nothing of the host, and the parts of an array.
use Rattle.std.specs.Prelude.{ℕ, ℤ, pos, negsuc, List, length, nat_lt, slice_get, Option, Some, None, option_and_then, Result, Err, if◌then◌else◌}
use Rattle.host_data.specs.Tree.{Tree, array, fields, Fields, listed, list_of, number_of, text_of, get}
use Rattle.jessie_values.specs.declared.reasons.Reason.{Reason}
use Rattle.jessie_values.specs.declared.reasons.Reason.TheVariants.{WrongKind}
use Rattle.jessie_values.specs.Outcomes.{◌>>=◌, of_kind, there}

-- `.name`: the field of a record under the name
abbrev pub field_at : List ℕ → Tree → Result Tree Reason
field_at name (fields fs) = there (get name fs)
field_at name _ = Err WrongKind

-- the place of an array of so many parts that a number names
abbrev pub place_in : ℕ → ℤ → Option ℕ
place_in n (pos i) = if nat_lt i n then Some i else None
place_in n (negsuc i) = None

abbrev pub item_at : List Tree → ℤ → Option Tree
item_at vs z = option_and_then (slice_get vs) (place_in (length vs) z)

-- the part of an array at a number from 0, and of a record under a text
abbrev pub item_under : List Tree → Tree → Result Tree Reason
item_under vs i = of_kind (number_of i) >>= λ z. there (item_at vs z)

abbrev pub field_under : Fields → Tree → Result Tree Reason
field_under fs i = of_kind (text_of i) >>= λ name. there (get name fs)

-- `[index]`
abbrev pub index_at : Tree → Tree → Result Tree Reason
index_at (array ts) i = item_under (listed ts) i
index_at (fields fs) i = field_under fs i
index_at _ i = Err WrongKind

-- what `for of` goes over
abbrev pub list_items : Tree → Result (List Tree) Reason
list_items v = of_kind (list_of v)
