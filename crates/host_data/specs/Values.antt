-- Values and amounts as data.
use Rattle.std.specs.Prelude.{ℕ, List, pos, map, codes}
use Rattle.amount_math.specs.Content.{Content, count, entries, unit}
use Rattle.amount_math.specs.ValueView.{ValueView}
use Rattle.amount_math.specs.declared.Amount.{Amount}
use Rattle.amount_math.specs.declared.Kind.{Kind}
use Rattle.amount_math.specs.declared.Kind.TheVariants.{Nat, Set, Bag}
use Rattle.host_data.specs.Tree.{Tree, number, text, array, fields, object, item, no_items, field, no_fields}
use Rattle.host_data.specs.View.{items_of}
use Rattle.host_data.specs.declared.data.ObjKind.{ObjKind}
use Rattle.host_data.specs.declared.data.ObjKind.TheVariants.{Brand}

abbrev pub object_tree : ObjKind → ℕ → Tree
object_tree kind n = object (record { kind = kind; number = n })

abbrev pub brand_tree : Kind → ℕ → Tree
brand_tree kind brand = object_tree (Brand kind) brand

abbrev pub number_tree : ℕ → Tree
number_tree n = number (pos n)

-- a key of a set
abbrev pub key_tree : List ℕ × ℕ → Tree
key_tree e = text e.0

-- a key of a bag with its count, `[key, count]`
abbrev pub counted_tree : List ℕ × ℕ → Tree
counted_tree e = array (item (text e.0) (item (number_tree e.1) no_items))

-- a number, the keys of a set, or the keys of a bag with their counts, in byte order
abbrev pub content_tree : Kind → Content → Tree
content_tree Nat c = number_tree (count c unit)
content_tree Set c = array (items_of (map key_tree (entries c)))
content_tree Bag c = array (items_of (map counted_tree (entries c)))

unfoldable pub value_tree : ValueView → Tree
value_tree w = content_tree w.kind w.content

-- `{brand, value}`
unfoldable pub amount_tree : Amount → Tree
amount_tree a = fields (field (codes "brand") (brand_tree a.value.kind a.brand) (field (codes "value") (value_tree a.value) no_fields))
