-- Printable data is printed at most one deeper than it nests.
use Rattle.std.proofs.Common.{◌≡◌, ℕ, suc, ℤ, ◌≤◌, ◌+◌, ◌-◌, true, false, Bool, refl, arith}
use Rattle.serde_json.specs.Data as json
use Rattle.serde_json.specs.Data.{depth, items_depth, members_depth}
use Rattle.refusals.specs.host_data.Tree.{Tree, null, boolean, number, text, array, fields, object, function, Items, no_items, item, Fields, no_fields, field}
use Rattle.refusals.specs.host_data.Nodes.{EachNode, EachItem, EachField}
use Rattle.turn_records.specs.Printable.{HasForm, most_nested}
use Rattle.turn_records.specs.PrintedData.{is_wide, printed, printed_fields, printed_items, printed_number}
use Rattle.turn_records.proofs.Fields.{depth_put}

number_depth : (z : ℤ) (b : Bool) → is_wide z ≡ b → depth (printed_number z) ≤ 1
number_depth z true wide = rw wide (omega arith)
number_depth z false wide = rw wide (omega arith)

mutual
  pub data_depth : (n : ℕ) (t : Tree) → n ≤ most_nested → EachNode HasForm n t → depth (printed t) + n ≤ suc most_nested
  data_depth n null low h = omega (arith, low)
  data_depth n (boolean b) low h = omega (arith, low)
  data_depth n (number z) low h = omega (arith, low, number_depth z (is_wide z) refl)
  data_depth n (text s) low h = omega (arith, low)
  data_depth n (array ts) low h = omega (arith, low, h.0, items_deep (n + 1) ts (omega (arith, h.0)) h.1)
  data_depth n (fields fs) low h = omega (arith, low, h.0.0, fields_deep (n + 1) fs json.no_members (omega (arith, h.0.0)) h.1 (omega (arith, h.0.0)))
  data_depth n (object o) low h = omega (arith, low)
  data_depth n (function name) low h = omega (arith, low)

  items_deep : (n : ℕ) (ts : Items) → n ≤ most_nested → EachItem HasForm n ts → items_depth (printed_items ts) + n ≤ suc most_nested
  items_deep n no_items low h = omega (arith, low)
  items_deep n (item t ts) low h = omega (arith, data_depth n t low h.0, items_deep n ts low h.1)

  fields_deep : (n : ℕ) (fs : Fields) (found : json.Members) → n ≤ most_nested → EachField HasForm n fs → members_depth found + n ≤ suc most_nested
      → members_depth (printed_fields fs found) + n ≤ suc most_nested
  fields_deep n no_fields found low h was = was
  fields_deep n (field name t fs) found low h was =
      fields_deep n fs (json.put name (printed t) found) low h.1
      (omega (arith, depth_put name (printed t) found (suc most_nested - n) (omega (arith, data_depth n t low h.0)) (omega (arith, was)), low))
