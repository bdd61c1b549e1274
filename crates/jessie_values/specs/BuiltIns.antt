-- The built-in functions that ask nothing of the host: harden, keys, len, push and put. Of the arguments a missing one is null, and a surplus one is dropped.
use Rattle.std.specs.Prelude.{ℕ, ℤ, pos, List, [], ◌∷◌, ◌++◌, length, map, slice_set, Result, Ok, Err, if◌then◌else◌}
use Rattle.std.specs.Str.{bytes_eq}
use Rattle.host_data.specs.Tree.{Tree, null, number, text, array, fields, Fields, no_fields, field, listed, list_of, pairs_of, count, get, number_of, text_of}
use Rattle.host_data.specs.View.{items_of}
use Rattle.jessie_values.specs.declared.reasons.Reason.{Reason}
use Rattle.jessie_values.specs.declared.reasons.Reason.TheVariants.{WrongKind}
use Rattle.jessie_values.specs.Outcomes.{◌>>=◌, of_kind, there}
use Rattle.jessie_values.specs.Records.{made, made_array}
use Rattle.jessie_values.specs.Accesses.{place_in}

-- ---- arguments

abbrev pub first : List Tree → Tree
first [] = null
first (v ∷ vs) = v

abbrev pub after_first : List Tree → List Tree
after_first [] = []
after_first (v ∷ vs) = vs

abbrev pub second : List Tree → Tree
second vs = first (after_first vs)

abbrev pub third : List Tree → Tree
third vs = first (after_first (after_first vs))

-- ---- of one value

-- the names of a record's fields, in byte order
abbrev pub keys_in : Tree → Result Tree Reason
keys_in v = of_kind (pairs_of v) >>= λ ms. Ok (array (items_of (map (λ m. text m.0) ms)))

-- how many elements, fields or bytes
abbrev pub length_in : Tree → Result Tree Reason
length_in (text t) = Ok (number (pos (length t)))
length_in (array ts) = Ok (number (pos (length (listed ts))))
length_in (fields fs) = Ok (number (pos (count fs)))
length_in _ = Err WrongKind

-- ---- of more

-- the array with one part more
abbrev pub pushed : Tree → Tree → Result Tree Reason
pushed v w = of_kind (list_of v) >>= λ vs. made_array (vs ++ w ∷ [])

-- the fields with another value under a name that is there
abbrev pub changed : List ℕ → Tree → Fields → Fields
changed x w no_fields = no_fields
changed x w (field y v fs) = if bytes_eq y x then field y w fs else field y v (changed x w fs)

-- the array with the part at a number changed, and the record with the field under a name changed: it must be there, none is added
abbrev pub changed_item : List Tree → ℤ → Tree → Result Tree Reason
changed_item vs z w = there (place_in (length vs) z) >>= λ n. made_array (slice_set vs n w)

abbrev pub changed_field : Fields → List ℕ → Tree → Result Tree Reason
changed_field fs name w = there (get name fs) >>= λ old. made (fields (changed name w fs))

abbrev pub replaced_item : List Tree → Tree → Tree → Result Tree Reason
replaced_item vs i w = of_kind (number_of i) >>= λ z. changed_item vs z w

abbrev pub replaced_field : Fields → Tree → Tree → Result Tree Reason
replaced_field fs i w = of_kind (text_of i) >>= λ name. changed_field fs name w

abbrev pub replaced : Tree → Tree → Tree → Result Tree Reason
replaced (array ts) i w = replaced_item (listed ts) i w
replaced (fields fs) i w = replaced_field fs i w
replaced _ i w = Err WrongKind

-- ---- the functions, on their arguments

abbrev pub harden : List Tree → Result Tree Reason
harden vs = Ok (first vs)

abbrev pub keys : List Tree → Result Tree Reason
keys vs = keys_in (first vs)

abbrev pub len : List Tree → Result Tree Reason
len vs = length_in (first vs)

abbrev pub push : List Tree → Result Tree Reason
push vs = pushed (first vs) (second vs)

abbrev pub put : List Tree → Result Tree Reason
put vs = replaced (first vs) (second vs) (third vs)
