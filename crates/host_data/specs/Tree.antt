-- Data without where it lies in memory: finished trees, and what is read of them.
use Rattle.std.specs.Prelude.{◌≡◌, ℕ, ℤ, ◌+◌, max, List, [], ◌∷◌, length, Bool, true, false, ◌||◌, Option, Some, None, if◌then◌else◌}
use Rattle.std.specs.Str.{bytes_eq}
use Rattle.std.specs.Cmp.Lexicographic.{slice_cmp}
use Rattle.std.specs.Ordering.{nat_cmp}
use Rattle.std.specs.declared.cmp.Ordering.TheVariants.{Less}
use Rattle.host_data.specs.declared.data.Obj.{Obj}
use Rattle.host_data.specs.declared.data.ObjKind.{ObjKind}
use Rattle.host_data.specs.declared.data.ObjKind.TheVariants.{Zcf, Zseat, Zmint}

mutual
  pub data Tree : Type 0 where
    null : Tree
    boolean : Bool → Tree
    number : ℤ → Tree
    text : List ℕ → Tree
    array : Items → Tree
    fields : Fields → Tree
    object : Obj → Tree
    function : List ℕ → Tree

  pub data Items : Type 0 where
    no_items : Items
    item : Tree → Items → Items

  pub data Fields : Type 0 where
    no_fields : Fields
    field : List ℕ → Tree → Fields → Fields

abbrev pub object_of : Tree → Option Obj
object_of (object o) = Some o
object_of _ = None

abbrev pub number_of : Tree → Option ℤ
number_of (number z) = Some z
number_of _ = None

abbrev pub text_of : Tree → Option (List ℕ)
text_of (text t) = Some t
text_of _ = None

abbrev pub boolean_of : Tree → Option Bool
boolean_of (boolean b) = Some b
boolean_of _ = None

abbrev pub function_of : Tree → Option (List ℕ)
function_of (function name) = Some name
function_of _ = None

abbrev pub is_null : Tree → Bool
is_null null = true
is_null _ = false

-- the parts of an array
abbrev pub listed : Items → List Tree
listed no_items = []
listed (item t ts) = t ∷ listed ts

abbrev pub list_of : Tree → Option (List Tree)
list_of (array ts) = Some (listed ts)
list_of _ = None

-- the names and parts of a record
abbrev pub paired : Fields → List (List ℕ × Tree)
paired no_fields = []
paired (field name t fs) = (name, t) ∷ paired fs

abbrev pub pairs_of : Tree → Option (List (List ℕ × Tree))
pairs_of (fields fs) = Some (paired fs)
pairs_of _ = None

abbrev pub count : Fields → ℕ
count no_fields = 0
count (field name t fs) = count fs + 1

abbrev pub get : List ℕ → Fields → Option Tree
get wanted no_fields = None
get wanted (field name t fs) = if bytes_eq name wanted then Some t else get wanted fs

-- how many fields a record has, and the field of a name
abbrev pub field_count : Tree → Option ℕ
field_count (fields fs) = Some (count fs)
field_count _ = None

abbrev pub field_of : List ℕ → Tree → Option Tree
field_of wanted (fields fs) = get wanted fs
field_of wanted _ = None

-- 1 for the value itself, and what its bytes, names and parts take
abbrev mutual
  pub size : Tree → ℕ
  size null = 1
  size (boolean b) = 1
  size (number z) = 1
  size (text t) = 1 + length t
  size (array ts) = 1 + items_size ts
  size (fields fs) = 1 + fields_size fs
  size (object o) = 1
  size (function name) = 1

  pub items_size : Items → ℕ
  items_size no_items = 0
  items_size (item t ts) = size t + items_size ts

  pub fields_size : Fields → ℕ
  fields_size no_fields = 0
  fields_size (field name t fs) = length name + size t + fields_size fs

-- an array or a record nests one deeper than its deepest part, an empty one 1, all else 0
abbrev mutual
  pub nesting : Tree → ℕ
  nesting (array ts) = 1 + items_nesting ts
  nesting (fields fs) = 1 + fields_nesting fs
  nesting _ = 0

  pub items_nesting : Items → ℕ
  items_nesting no_items = 0
  items_nesting (item t ts) = max (nesting t) (items_nesting ts)

  pub fields_nesting : Fields → ℕ
  fields_nesting no_fields = 0
  fields_nesting (field name t fs) = max (nesting t) (fields_nesting fs)

-- what never leaves its instance: zcf, a ZCF seat, a ZCF mint
abbrev pub stays : ObjKind → Bool
stays Zcf = true
stays Zseat = true
stays Zmint = true
stays _ = false

-- it holds something that stays, or a function, anywhere
abbrev mutual
  pub is_local : Tree → Bool
  is_local (array ts) = some_local ts
  is_local (fields fs) = some_local_field fs
  is_local (object o) = stays o.kind
  is_local (function name) = true
  is_local _ = false

  pub some_local : Items → Bool
  some_local no_items = false
  some_local (item t ts) = is_local t || some_local ts

  pub some_local_field : Fields → Bool
  some_local_field no_fields = false
  some_local_field (field name t fs) = is_local t || some_local_field fs

-- name stands before the first field, in byte order
abbrev pub Before : List ℕ → Fields → Type 0
Before name no_fields = Unit {0}
Before name (field next t fs) = slice_cmp nat_cmp name next ≡ Less

-- the fields of every record stand in byte order of their names, each name once
abbrev mutual
  pub Ordered : Tree → Type 0
  Ordered (array ts) = OrderedItems ts
  Ordered (fields fs) = OrderedFields fs
  Ordered _ = Unit {0}

  pub OrderedItems : Items → Type 0
  OrderedItems no_items = Unit {0}
  OrderedItems (item t ts) = Ordered t × OrderedItems ts

  pub OrderedFields : Fields → Type 0
  OrderedFields no_fields = Unit {0}
  OrderedFields (field name t fs) = Ordered t × Before name fs × OrderedFields fs
