-- The tree that data stands for.
use Rattle.std.specs.Prelude.{ℕ, List, [], ◌∷◌, map}
use Rattle.host_data.specs.Tree.{Tree, null, boolean, number, text, array, fields, object, function, Items, no_items, item, Fields, no_fields, field}
use Rattle.host_data.specs.declared.data.Data.{Data}
use Rattle.host_data.specs.declared.data.Data.TheFolds.{fold-Data}
use Rattle.host_data.specs.declared.data.Data.TheOpen.{Data-F}

abbrev pub items_of : List Tree → Items
items_of [] = no_items
items_of (t ∷ ts) = item t (items_of ts)

abbrev pub fields_of : List (List ℕ × Tree) → Fields
fields_of [] = no_fields
fields_of (m ∷ ms) = field m.0 m.1 (fields_of ms)

-- one level, with each part already seen as its tree
abbrev pub tree_step : Data-F Tree → Tree
tree_step (Data-F.Number z) = number z
tree_step (Data-F.Text s) = text s
tree_step (Data-F.Bool b) = boolean b
tree_step Data-F.Null = null
tree_step (Data-F.Array v) = array (items_of v.items)
tree_step (Data-F.Record v) = fields (fields_of v.items)
tree_step (Data-F.Object o) = object o
tree_step (Data-F.Function s) = function s

abbrev pub tree : Data → Tree
tree = fold-Data Tree tree_step

-- a field of a record, as its name and its tree
abbrev pub named : List ℕ × Data → List ℕ × Tree
named f = (f.0, tree f.1)

-- what lists of data and of fields stand for
abbrev pub trees : List Data → List Tree
trees ds = map tree ds

abbrev pub named_trees : List (List ℕ × Data) → List (List ℕ × Tree)
named_trees fs = map (λ f. (f.0, tree f.1)) fs
