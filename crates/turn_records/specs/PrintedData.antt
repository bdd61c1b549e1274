-- Data as a journal prints it.
use Rattle.std.specs.Prelude.{ℤ, pos, negsuc, suc, ◌^◌, Bool, not, nat_lt, if◌then◌else◌, codes}
use Rattle.std.specs.Fmt.{signed_decimal}
use Rattle.serde_json.specs.Data as json
use Rattle.serde_json.specs.Find.{of_integer}
use Rattle.refusals.specs.host_data.Tree.{Tree, null, boolean, number, text, array, fields, object, function, Items, no_items, item, Fields, no_fields, field}
use Rattle.turn_rows.specs.Rows.{only}
use Rattle.turn_records.specs.Names.{object_name}

-- it lies beyond 2^63 - 1 either way
abbrev pub is_wide : ℤ → Bool
is_wide (pos n) = not (nat_lt n (2 ^ 63))
is_wide (negsuc n) = not (nat_lt (suc n) (2 ^ 63))

-- `12`, or `{"#":"9223372036854775808"}`
abbrev pub printed_number : ℤ → json.Data
printed_number z = if is_wide z then only (codes "#") (json.string (signed_decimal z)) else json.number (of_integer z)

-- an object is `{"@": name}`, a function `{"=>": name}`; a record's fields stand in byte order of their names
abbrev mutual
  pub printed : Tree → json.Data
  printed null = json.null
  printed (boolean b) = json.boolean b
  printed (number z) = printed_number z
  printed (text s) = json.string s
  printed (array ts) = json.array (printed_items ts)
  printed (fields fs) = json.object (printed_fields fs json.no_members)
  printed (object o) = only (codes "@") (json.string (object_name o))
  printed (function name) = only (codes "=>") (json.string name)

  pub printed_items : Items → json.Items
  printed_items no_items = json.no_items
  printed_items (item t ts) = json.item (printed t) (printed_items ts)

  -- the fields, put to those that are found
  pub printed_fields : Fields → json.Members → json.Members
  printed_fields no_fields found = found
  printed_fields (field name t fs) found = printed_fields fs (json.put name (printed t) found)
