-- What holds at each node is weakened there; nesting, order and what is local are facts of each node.
use Rattle.std.proofs.Common.{◌≡◌, ◌≤◌, ◌+◌, ℕ, false, refl, arith}
use Rattle.host_data.specs.Tree.{Tree, null, boolean, number, text, array, fields, object, function, Items, no_items, item, Fields, no_fields, field, Ordered, OrderedItems, OrderedFields, is_local, some_local, some_local_field, nesting, items_nesting, fields_nesting}
use Rattle.host_data.specs.Nodes.{NodeFact, EachNode, EachItem, EachField, Both, Implies, IsShallow, AreInOrder, HasFieldsInOrder, IsFree}

mutual
  pub weaker : (P Q : NodeFact) → Implies P Q → (n : ℕ) (t : Tree) → EachNode P n t → EachNode Q n t
  weaker P Q to n (array ts) h = (to n _ h.0, weaker_items P Q to (n + 1) ts h.1)
  weaker P Q to n (fields fs) h = (to n _ h.0, weaker_fields P Q to (n + 1) fs h.1)
  weaker P Q to n null h = to n _ h
  weaker P Q to n (boolean b) h = to n _ h
  weaker P Q to n (number z) h = to n _ h
  weaker P Q to n (text s) h = to n _ h
  weaker P Q to n (object o) h = to n _ h
  weaker P Q to n (function name) h = to n _ h

  weaker_items : (P Q : NodeFact) → Implies P Q → (n : ℕ) (ts : Items) → EachItem P n ts → EachItem Q n ts
  weaker_items P Q to n no_items h = tt
  weaker_items P Q to n (item t ts) h = (weaker P Q to n t h.0, weaker_items P Q to n ts h.1)

  weaker_fields : (P Q : NodeFact) → Implies P Q → (n : ℕ) (fs : Fields) → EachField P n fs → EachField Q n fs
  weaker_fields P Q to n no_fields h = tt
  weaker_fields P Q to n (field name t fs) h = (weaker P Q to n t h.0, weaker_fields P Q to n fs h.1)

mutual
  pub both : (P Q : NodeFact) (n : ℕ) (t : Tree) → EachNode P n t → EachNode Q n t → EachNode (Both P Q) n t
  both P Q n (array ts) h k = ((h.0, k.0), both_items P Q (n + 1) ts h.1 k.1)
  both P Q n (fields fs) h k = ((h.0, k.0), both_fields P Q (n + 1) fs h.1 k.1)
  both P Q n null h k = (h, k)
  both P Q n (boolean b) h k = (h, k)
  both P Q n (number z) h k = (h, k)
  both P Q n (text s) h k = (h, k)
  both P Q n (object o) h k = (h, k)
  both P Q n (function name) h k = (h, k)

  both_items : (P Q : NodeFact) (n : ℕ) (ts : Items) → EachItem P n ts → EachItem Q n ts → EachItem (Both P Q) n ts
  both_items P Q n no_items h k = tt
  both_items P Q n (item t ts) h k = (both P Q n t h.0 k.0, both_items P Q n ts h.1 k.1)

  both_fields : (P Q : NodeFact) (n : ℕ) (fs : Fields) → EachField P n fs → EachField Q n fs → EachField (Both P Q) n fs
  both_fields P Q n no_fields h k = tt
  both_fields P Q n (field name t fs) h k = (both P Q n t h.0 k.0, both_fields P Q n fs h.1 k.1)

mutual
  pub shallow : (d n : ℕ) (t : Tree) → n + nesting t ≤ d → EachNode (IsShallow d) n t
  shallow d n (array ts) h = (omega (arith, h), shallow_items d (n + 1) ts (omega (arith, h)))
  shallow d n (fields fs) h = (omega (arith, h), shallow_fields d (n + 1) fs (omega (arith, h)))
  shallow d n null h = tt
  shallow d n (boolean b) h = tt
  shallow d n (number z) h = tt
  shallow d n (text s) h = tt
  shallow d n (object o) h = tt
  shallow d n (function name) h = tt

  shallow_items : (d n : ℕ) (ts : Items) → n + items_nesting ts ≤ d → EachItem (IsShallow d) n ts
  shallow_items d n no_items h = tt
  shallow_items d n (item t ts) h = (shallow d n t (omega (arith, h)), shallow_items d n ts (omega (arith, h)))

  shallow_fields : (d n : ℕ) (fs : Fields) → n + fields_nesting fs ≤ d → EachField (IsShallow d) n fs
  shallow_fields d n no_fields h = tt
  shallow_fields d n (field name t fs) h = (shallow d n t (omega (arith, h)), shallow_fields d n fs (omega (arith, h)))

mutual
  pub nested : (d n : ℕ) (t : Tree) → n ≤ d → EachNode (IsShallow d) n t → n + nesting t ≤ d
  nested d n (array ts) low h = omega (arith, h.0, nested_items d (n + 1) ts (omega (arith, h.0)) h.1)
  nested d n (fields fs) low h = omega (arith, h.0, nested_fields d (n + 1) fs (omega (arith, h.0)) h.1)
  nested d n null low h = omega (arith, low)
  nested d n (boolean b) low h = omega (arith, low)
  nested d n (number z) low h = omega (arith, low)
  nested d n (text s) low h = omega (arith, low)
  nested d n (object o) low h = omega (arith, low)
  nested d n (function name) low h = omega (arith, low)

  nested_items : (d n : ℕ) (ts : Items) → n ≤ d → EachItem (IsShallow d) n ts → n + items_nesting ts ≤ d
  nested_items d n no_items low h = omega (arith, low)
  nested_items d n (item t ts) low h = omega (arith, nested d n t low h.0, nested_items d n ts low h.1)

  nested_fields : (d n : ℕ) (fs : Fields) → n ≤ d → EachField (IsShallow d) n fs → n + fields_nesting fs ≤ d
  nested_fields d n no_fields low h = omega (arith, low)
  nested_fields d n (field name t fs) low h = omega (arith, nested d n t low h.0, nested_fields d n fs low h.1)

in_order : (fs : Fields) → OrderedFields fs → AreInOrder fs
in_order no_fields h = tt
in_order (field name t fs) h = (h.1, in_order fs h.2)

mutual
  pub ordered : (n : ℕ) (t : Tree) → Ordered t → EachNode HasFieldsInOrder n t
  ordered n (array ts) h = (tt, ordered_items (n + 1) ts h)
  ordered n (fields fs) h = (in_order fs h, ordered_fields (n + 1) fs h)
  ordered n null h = tt
  ordered n (boolean b) h = tt
  ordered n (number z) h = tt
  ordered n (text s) h = tt
  ordered n (object o) h = tt
  ordered n (function name) h = tt

  ordered_items : (n : ℕ) (ts : Items) → OrderedItems ts → EachItem HasFieldsInOrder n ts
  ordered_items n no_items h = tt
  ordered_items n (item t ts) h = (ordered n t h.0, ordered_items n ts h.1)

  ordered_fields : (n : ℕ) (fs : Fields) → OrderedFields fs → EachField HasFieldsInOrder n fs
  ordered_fields n no_fields h = tt
  ordered_fields n (field name t fs) h = (ordered n t h.0, ordered_fields n fs h.2)

mutual
  pub in_order_throughout : (n : ℕ) (t : Tree) → EachNode HasFieldsInOrder n t → Ordered t
  in_order_throughout n (array ts) h = items_in_order (n + 1) ts h.1
  in_order_throughout n (fields fs) h = fields_in_order (n + 1) fs h.0 h.1
  in_order_throughout n null h = tt
  in_order_throughout n (boolean b) h = tt
  in_order_throughout n (number z) h = tt
  in_order_throughout n (text s) h = tt
  in_order_throughout n (object o) h = tt
  in_order_throughout n (function name) h = tt

  items_in_order : (n : ℕ) (ts : Items) → EachItem HasFieldsInOrder n ts → OrderedItems ts
  items_in_order n no_items h = tt
  items_in_order n (item t ts) h = (in_order_throughout n t h.0, items_in_order n ts h.1)

  fields_in_order : (n : ℕ) (fs : Fields) → AreInOrder fs → EachField HasFieldsInOrder n fs → OrderedFields fs
  fields_in_order n no_fields first h = tt
  fields_in_order n (field name t fs) first h = (in_order_throughout n t h.0, first.0, fields_in_order n fs first.1 h.1)

mutual
  pub free : (n : ℕ) (t : Tree) → is_local t ≡ false → EachNode IsFree n t
  free n (array ts) h = (tt, free_items (n + 1) ts h)
  free n (fields fs) h = (tt, free_fields (n + 1) fs h)
  free n null h = tt
  free n (boolean b) h = tt
  free n (number z) h = tt
  free n (text s) h = tt
  free n (object o) h = h
  free n (function name) h = grind arith

  free_items : (n : ℕ) (ts : Items) → some_local ts ≡ false → EachItem IsFree n ts
  free_items n no_items h = tt
  free_items n (item t ts) h = (free n t (grind arith), free_items n ts (grind arith))

  free_fields : (n : ℕ) (fs : Fields) → some_local_field fs ≡ false → EachField IsFree n fs
  free_fields n no_fields h = tt
  free_fields n (field name t fs) h = (free n t (grind arith), free_fields n fs (grind arith))

mutual
  pub not_local : (n : ℕ) (t : Tree) → EachNode IsFree n t → is_local t ≡ false
  not_local n (array ts) h = none_local (n + 1) ts h.1
  not_local n (fields fs) h = no_field_local (n + 1) fs h.1
  not_local n null h = refl
  not_local n (boolean b) h = refl
  not_local n (number z) h = refl
  not_local n (text s) h = refl
  not_local n (object o) h = h
  not_local n (function name) h = absurd h

  none_local : (n : ℕ) (ts : Items) → EachItem IsFree n ts → some_local ts ≡ false
  none_local n no_items h = refl
  none_local n (item t ts) h = rw (not_local n t h.0, none_local n ts h.1) refl

  no_field_local : (n : ℕ) (fs : Fields) → EachField IsFree n fs → some_local_field fs ≡ false
  no_field_local n no_fields h = refl
  no_field_local n (field name t fs) h = rw (not_local n t h.0, no_field_local n fs h.1) refl
