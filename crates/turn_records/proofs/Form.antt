-- Printable data is printed in form.
use Rattle.std.proofs.Common.{◌≡◌, ℕ, suc, ℤ, pos, negsuc, ◌<◌, ◌+◌, ◌^◌, [], inl, inr, true, false, Bool, nat_lt, codes, refl, arith}
use Rattle.std.specs.List.Sorted.{IsStrictlySortedBy}
use Rattle.serde_json.specs.Data as json
use Rattle.turn_rows.specs.amount_math.Content.{key_cmp}
use Rattle.refusals.specs.host_data.Tree.{Tree, null, boolean, number, text, array, fields, object, function, Items, no_items, item, Fields, no_fields, field}
use Rattle.refusals.specs.host_data.declared.data.ObjKind.{ObjKind}
use Rattle.refusals.specs.host_data.declared.data.ObjKind.TheVariants.{Ertp, Zoe, Timer, Brand, Issuer, Mint, Purse, Deposit, Payment, Installation, Instance, Zcf, Seat, Zseat, Zmint, Facet, Promise}
use Rattle.turn_rows.specs.Form.{AreData, AreFields, IsData, IsObjectName, names_of}
use Rattle.refusals.specs.host_data.Nodes.{EachNode, EachItem, EachField}
use Rattle.turn_records.specs.Names.{numbers_end, object_name}
use Rattle.turn_records.specs.Printable.{HasForm, HaveFieldNames, IsNumber}
use Rattle.turn_records.specs.PrintedData.{printed, printed_fields, printed_items, printed_number}
use Rattle.turn_records.proofs.Fields.{fields_put, sorted_put}

name_is : (kind : ObjKind) (n : ℕ) → n < numbers_end kind → IsObjectName (object_name (record { kind = kind; number = n }))
unfolding object_name
name_is Ertp n h = inl refl
name_is Zoe n h = inl refl
name_is Timer n h = inl refl
name_is (Brand kind) n h = inr (inl (record { word = codes "brand"; one_of = refl; numbered = record { number = n; below = h; is = refl } }))
name_is Issuer n h = inr (inl (record { word = codes "issuer"; one_of = refl; numbered = record { number = n; below = h; is = refl } }))
name_is Mint n h = inr (inl (record { word = codes "mint"; one_of = refl; numbered = record { number = n; below = h; is = refl } }))
name_is Zmint n h = inr (inl (record { word = codes "zmint"; one_of = refl; numbered = record { number = n; below = h; is = refl } }))
name_is Purse n h = inr (inr (record { word = codes "purse"; one_of = refl; numbered = record { number = n; below = h; is = refl } }))
name_is Deposit n h = inr (inr (record { word = codes "deposit"; one_of = refl; numbered = record { number = n; below = h; is = refl } }))
name_is Payment n h = inr (inr (record { word = codes "payment"; one_of = refl; numbered = record { number = n; below = h; is = refl } }))
name_is Installation n h = inr (inr (record { word = codes "installation"; one_of = refl; numbered = record { number = n; below = h; is = refl } }))
name_is Instance n h = inr (inr (record { word = codes "instance"; one_of = refl; numbered = record { number = n; below = h; is = refl } }))
name_is Zcf n h = inr (inr (record { word = codes "zcf"; one_of = refl; numbered = record { number = n; below = h; is = refl } }))
name_is Seat n h = inr (inr (record { word = codes "seat"; one_of = refl; numbered = record { number = n; below = h; is = refl } }))
name_is Zseat n h = inr (inr (record { word = codes "zseat"; one_of = refl; numbered = record { number = n; below = h; is = refl } }))
name_is Facet n h = inr (inr (record { word = codes "facet"; one_of = refl; numbered = record { number = n; below = h; is = refl } }))
name_is Promise n h = inr (inr (record { word = codes "promise"; one_of = refl; numbered = record { number = n; below = h; is = refl } }))

-- ---- numbers

nonnegative : (n : ℕ) (b : Bool) → nat_lt n (2 ^ 63) ≡ b → n < 2 ^ 127 → IsData (printed_number (pos n))
nonnegative n true low h = rw low (grind arith)
nonnegative n false low h = rw low (inl (inr (inr (refl, record { number = pos n; wide = (grind arith, h); is = refl }))))

below_nought : (n : ℕ) (b : Bool) → nat_lt (suc n) (2 ^ 63) ≡ b → n < 2 ^ 127 → IsData (printed_number (negsuc n))
below_nought n true low h = rw low (grind arith)
below_nought n false low h = rw low (inl (inr (inr (refl, record { number = negsuc n; wide = (grind arith, h); is = refl }))))

number_is : (z : ℤ) → IsNumber z → IsData (printed_number z)
number_is (pos n) h = nonnegative n (nat_lt n (2 ^ 63)) refl h
number_is (negsuc n) h = below_nought n (nat_lt (suc n) (2 ^ 63)) refl h

-- ---- data

none_sorted : IsStrictlySortedBy key_cmp []
unfolding IsStrictlySortedBy
none_sorted = tt

mutual
  pub data_is : (n : ℕ) (t : Tree) → EachNode HasForm n t → IsData (printed t)
  data_is n null h = tt
  data_is n (boolean b) h = tt
  data_is n (number z) h = number_is z h
  data_is n (text s) h = h
  data_is n (array ts) h = items_are (n + 1) ts h.1
  data_is n (fields fs) h = inr (fields_are (n + 1) fs json.no_members h.0.1 h.1 tt, fields_sorted fs json.no_members none_sorted)
  data_is n (object o) h = inl (inl (refl, name_is o.kind o.number h))
  data_is n (function name) h = inl (inr (inl (refl, h)))

  items_are : (n : ℕ) (ts : Items) → EachItem HasForm n ts → AreData (printed_items ts)
  items_are n no_items h = tt
  items_are n (item t ts) h = (data_is n t h.0, items_are n ts h.1)

  fields_are : (n : ℕ) (fs : Fields) (found : json.Members) → HaveFieldNames fs → EachField HasForm n fs → AreFields found → AreFields (printed_fields fs found)
  fields_are n no_fields found names h was = was
  fields_are n (field name t fs) found names h was = fields_are n fs (json.put name (printed t) found) names.1 h.1 (fields_put name (printed t) found names.0 (data_is n t h.0) was)

  fields_sorted : (fs : Fields) (found : json.Members) → IsStrictlySortedBy key_cmp (names_of found) → IsStrictlySortedBy key_cmp (names_of (printed_fields fs found))
  fields_sorted no_fields found was = was
  fields_sorted (field name t fs) found was = fields_sorted fs (json.put name (printed t) found) (sorted_put name (printed t) found was)
