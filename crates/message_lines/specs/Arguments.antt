-- The arguments of a line, and the JSON that they are written as.
use Rattle.std.specs.Prelude.{ℕ, ◌+◌, max, ◌==◌, ◌&&◌, ◌||◌, List, [], ◌∷◌, Bool, false, not, length}
use Rattle.std.specs.Prelude.{nat_le, Option, Some, None, option_map, option_and_then}
use Rattle.std.specs.Prelude.{if◌then◌else◌, codes}
use Rattle.std.specs.Char.{is_ascii_digit}
use Rattle.std.specs.List.{list_all, slice_split}
use Rattle.std.specs.Str.{bytes_eq}
use Rattle.serde_json.specs.Data as json
use Rattle.serde_json.specs.Find.{as_array, as_integer, as_str}
use Rattle.turn_records.specs.host_text.Numbers.{number_in}
use Rattle.turn_records.specs.host_text.Words.{is_label, is_field_name}
use Rattle.turn_records.specs.Messages.{Part, null, boolean, number, text, array, fields, path}
use Rattle.turn_records.specs.Messages.{Parts, no_parts, part, FieldParts, no_fields, field}

-- ---- paths

abbrev pub are_digits : List ℕ → Bool
are_digits s = list_all is_ascii_digit s

-- digits, of which the first is no `0` but where it is the only one
abbrev pub is_index : List ℕ → Bool
is_index [] = false
is_index (d ∷ []) = is_ascii_digit d
is_index (d ∷ e ∷ ds) = are_digits (d ∷ e ∷ ds) && not (d == 48)

abbrev pub is_step : List ℕ → Bool
is_step s = is_field_name s || is_index s

-- what stands between the dots of a path
abbrev pub steps_of : List ℕ → List (List ℕ)
steps_of p = slice_split (λ b. b == 46) p

abbrev pub are_steps : List (List ℕ) → Bool
are_steps ss = list_all is_step ss

abbrev pub has_steps : List (List ℕ) → Bool
has_steps [] = false
has_steps (label ∷ steps) = is_label label && are_steps steps

-- a label, then steps `.field` or `.index`
unfoldable pub is_path : List ℕ → Bool
is_path p = has_steps (steps_of p)

-- ---- what the JSON of an argument stands for

-- the most bytes of a text in data
abbrev pub most_bytes : ℕ
most_bytes = 65536

abbrev pub text_part : List ℕ → Option Part
text_part s = if nat_le (length s) most_bytes then Some (text s) else None

abbrev pub path_part : List ℕ → Option Part
path_part p = if is_path p then Some (path p) else None

-- the text of the one member, where there is one alone and it has this name
abbrev pub only_text : List ℕ → json.Members → Option (List ℕ)
only_text wanted (json.member name d json.no_members) =
    if bytes_eq wanted name then as_str d else None
only_text wanted _ = None

-- `{"#":decimal}`, `{"@":path}`, or a record
abbrev pub object_part : Option (List ℕ) → Option (List ℕ) → Option FieldParts → Option Part
object_part (Some s) _ fs = option_map number (number_in s)
object_part None (Some p) fs = path_part p
object_part None None fs = option_map fields fs

-- null, truth values, texts, whole numbers, arrays, records whose fields have names of their form;
-- nothing else is data
abbrev mutual
  pub part_in : json.Data → Option Part
  part_in json.null = Some null
  part_in (json.boolean b) = Some (boolean b)
  part_in (json.number n) = option_map number (as_integer n)
  part_in (json.string s) = text_part s
  part_in (json.array ds) = option_map array (parts_in ds)
  part_in (json.object ms) =
      object_part (only_text (codes "#") ms) (only_text (codes "@") ms) (fields_in ms)

  pub parts_in : json.Items → Option Parts
  parts_in json.no_items = Some no_parts
  parts_in (json.item d ds) = option_and_then (λ t. option_map (part t) (parts_in ds)) (part_in d)

  pub fields_in : json.Members → Option FieldParts
  fields_in json.no_members = Some no_fields
  fields_in (json.member name d ms) =
      if is_field_name name
      then option_and_then (λ t. option_map (field name t) (fields_in ms)) (part_in d) else None

abbrev pub part_in_members : json.Members → Option Part
part_in_members ms =
    object_part (only_text (codes "#") ms) (only_text (codes "@") ms) (fields_in ms)

-- an array or a record nests one deeper than its deepest part, an empty one 1, all else 0
abbrev mutual
  pub nesting : Part → ℕ
  nesting (array ts) = 1 + parts_nesting ts
  nesting (fields fs) = 1 + fields_nesting fs
  nesting _ = 0

  pub parts_nesting : Parts → ℕ
  parts_nesting no_parts = 0
  parts_nesting (part t ts) = max (nesting t) (parts_nesting ts)

  pub fields_nesting : FieldParts → ℕ
  fields_nesting no_fields = 0
  fields_nesting (field name t fs) = max (nesting t) (fields_nesting fs)

-- how deep data may nest
abbrev pub most_deep : ℕ
most_deep = 32

abbrev pub shallow : Parts → Option Parts
shallow ts = if nat_le (parts_nesting ts) most_deep then Some ts else None

abbrev pub shallow_parts : json.Items → Option Parts
shallow_parts ds = option_and_then shallow (parts_in ds)

-- the arguments of a line, each of which nests at most 32
unfoldable pub arguments_in : json.Data → Option Parts
arguments_in d = option_and_then shallow_parts (as_array d)
