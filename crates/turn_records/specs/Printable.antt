-- Data that a journal prints in form: a fact of each node.
use Rattle.std.specs.Prelude.{◌≡◌, ◌<◌, ◌^◌, ℕ, ℤ, pos, negsuc, true}
use Rattle.std.specs.Str.{IsUtf8}
use Rattle.turn_rows.specs.host_text.Words.{is_field_name}
use Rattle.refusals.specs.host_data.Tree.{Tree, null, boolean, number, text, array, fields, object, function, Fields, no_fields, field}
use Rattle.refusals.specs.host_data.Nodes.{EachNode, NodeFact}
use Rattle.turn_records.specs.Names.{numbers_end}

-- arrays and records nest at most so deep
abbrev pub most_nested : ℕ
most_nested = 32

-- within 128 signed bits
abbrev pub IsNumber : ℤ → Type 0
IsNumber (pos n) = n < 2 ^ 127
IsNumber (negsuc n) = n < 2 ^ 127

abbrev pub HaveFieldNames : Fields → Type 0
HaveFieldNames no_fields = Unit {0}
HaveFieldNames (field name t fs) = (is_field_name name ≡ true) × HaveFieldNames fs

-- a node that is printed in form
abbrev pub HasForm : NodeFact
HasForm n null = Unit {0}
HasForm n (boolean b) = Unit {0}
HasForm n (number z) = IsNumber z
HasForm n (text s) = IsUtf8 s
HasForm n (array ts) = n < most_nested
HasForm n (fields fs) = (n < most_nested) × HaveFieldNames fs
HasForm n (object o) = o.number < numbers_end o.kind
HasForm n (function name) = is_field_name name ≡ true

abbrev pub IsPrintable : Tree → Type 0
IsPrintable t = EachNode HasForm 0 t
