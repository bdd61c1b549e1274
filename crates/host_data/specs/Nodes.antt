-- What holds at each node of data. A fact of a node sees how deep the node lies: the data itself at n, the
-- parts of an array or a record one deeper.
use Rattle.std.specs.Prelude.{◌≡◌, ◌<◌, ◌+◌, ℕ, List, false}
use Rattle.host_data.specs.Tree.{Tree, null, boolean, number, text, array, fields, object, function, Items, no_items, item, Fields, no_fields, field, Before, stays}
use Rattle.host_data.specs.declared.data.Obj.{Obj}

-- a fact of a node, by how deep it lies
abbrev pub NodeFact : Type 1
NodeFact = ℕ → Tree → Type 0

abbrev mutual
  pub EachNode : NodeFact → ℕ → Tree → Type 0
  EachNode P n (array ts) = P n (array ts) × EachItem P (n + 1) ts
  EachNode P n (fields fs) = P n (fields fs) × EachField P (n + 1) fs
  EachNode P n null = P n null
  EachNode P n (boolean b) = P n (boolean b)
  EachNode P n (number z) = P n (number z)
  EachNode P n (text s) = P n (text s)
  EachNode P n (object o) = P n (object o)
  EachNode P n (function name) = P n (function name)

  pub EachItem : NodeFact → ℕ → Items → Type 0
  EachItem P n no_items = Unit {0}
  EachItem P n (item t ts) = EachNode P n t × EachItem P n ts

  pub EachField : NodeFact → ℕ → Fields → Type 0
  EachField P n no_fields = Unit {0}
  EachField P n (field name t fs) = EachNode P n t × EachField P n fs

-- ---- facts of nodes

abbrev pub Both : NodeFact → NodeFact → NodeFact
Both P Q n t = P n t × Q n t

abbrev pub Implies : NodeFact → NodeFact → Type 0
Implies P Q = (n : ℕ) (t : Tree) → P n t → Q n t

-- an object meets a test; other nodes do
abbrev pub ObjectIs : (Obj → Type 0) → NodeFact
ObjectIs P n (object o) = P o
ObjectIs P n _ = Unit {0}

-- a function meets a test; other nodes do
abbrev pub FunctionIs : (List ℕ → Type 0) → NodeFact
FunctionIs P n (function name) = P name
FunctionIs P n _ = Unit {0}

-- an array or a record lies above d
abbrev pub IsShallow : ℕ → NodeFact
IsShallow d n (array ts) = n < d
IsShallow d n (fields fs) = n < d
IsShallow d n _ = Unit {0}

-- each field stands before the next, in byte order of their names
abbrev pub AreInOrder : Fields → Type 0
AreInOrder no_fields = Unit {0}
AreInOrder (field name t fs) = Before name fs × AreInOrder fs

abbrev pub HasFieldsInOrder : NodeFact
HasFieldsInOrder n (fields fs) = AreInOrder fs
HasFieldsInOrder n _ = Unit {0}

-- neither a function nor an object that stays with its instance
abbrev pub IsFree : NodeFact
IsFree n (object o) = stays o.kind ≡ false
IsFree n (function name) = ⊥
IsFree n _ = Unit {0}
