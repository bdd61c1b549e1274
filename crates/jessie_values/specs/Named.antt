-- The place of a name in a list of fields.
use Rattle.std.specs.Prelude.{◌≡◌, ℕ, ◌<◌, List, length, true, false, slice_index_or}
use Rattle.std.specs.Str.{bytes_eq}
use Rattle.host_data.specs.declared.data.Data.{Data}

abbrev pub Named : Type 0
Named = List (List ℕ × Data)

-- no field before the place has the name
pub record NotBefore (name : List ℕ) (fs : Named) (i : ℕ) : Type 0 where
  pub others : (k : ℕ) (d : List ℕ × Data) → k < i → bytes_eq (slice_index_or fs k d).0 name ≡ false

-- the first field of that name stands at the place
pub record IsFirstNamed (name : List ℕ) (fs : Named) (i : ℕ) : Type 0 where
  pub within : i < length fs
  pub before : NotBefore name fs i
  pub here : (d : List ℕ × Data) → bytes_eq (slice_index_or fs i d).0 name ≡ true
