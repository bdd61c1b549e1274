-- Arrays and records as they are made.
use Rattle.std.specs.Prelude.{ℕ, List, [], ◌∷◌, nat_le, Result, Ok, Err, if◌then◌else◌}
use Rattle.std.specs.Cmp.Lexicographic.{slice_cmp}
use Rattle.std.specs.Ordering.{nat_cmp}
use Rattle.std.specs.declared.cmp.Ordering.{Ordering}
use Rattle.std.specs.declared.cmp.Ordering.TheVariants.{Less, Equal, Greater}
use Rattle.host_data.specs.Tree.{Tree, array, fields, Fields, no_fields, field, nesting}
use Rattle.host_data.specs.View.{items_of}
use Rattle.jessie_values.specs.declared.reasons.Reason.{Reason}
use Rattle.jessie_values.specs.declared.reasons.Reason.TheVariants.{TooLarge}

-- what is made nests at most 32 deep
abbrev pub deepest : ℕ
deepest = 32

abbrev pub made : Tree → Result Tree Reason
made v = if nat_le (nesting v) deepest then Ok v else Err TooLarge

-- A record has its fields in byte order of the names. A field that is put in takes the place of one of its name.

abbrev pub placed : Ordering → Fields → Fields → Fields → Fields
placed Less before here behind = before
placed Equal before here behind = here
placed Greater before here behind = behind

abbrev pub with_field : List ℕ → Tree → Fields → Fields
with_field x v no_fields = field x v no_fields
with_field x v (field y w fs) = placed (slice_cmp nat_cmp x y) (field x v (field y w fs)) (field x v fs) (field y w (with_field x v fs))

abbrev pub with_fields : Fields → List (List ℕ × Tree) → Fields
with_fields fs [] = fs
with_fields fs (m ∷ ms) = with_fields (with_field m.0 m.1 fs) ms

-- the record of the fields that a text writes in this order: of a doubled name the last counts
abbrev pub record_of : List (List ℕ × Tree) → Fields
record_of ms = with_fields no_fields ms

abbrev pub made_array : List Tree → Result Tree Reason
made_array vs = made (array (items_of vs))

abbrev pub made_record : List (List ℕ × Tree) → Result Tree Reason
made_record ms = made (fields (record_of ms))
