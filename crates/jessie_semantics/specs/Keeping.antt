-- What holds of each value that an evaluation works with: a fact W about trees, said of all that a
-- call, an answer, a state or an outcome holds.
use Rattle.std.specs.Prelude.{◌≡◌, ℕ, true, List, [], ◌∷◌, ◌++◌, ◌⊎◌, map, length}
use Rattle.host_data.specs.Tree.{Tree, null, boolean, number, text, array, fields, object, function, Items, no_items, item, Fields, no_fields, field}
use Rattle.host_data.specs.declared.data.Obj.{Obj}
use Rattle.jessie_values.specs.jessie_grammar.Syntax.{Routine}
use Rattle.jessie_values.specs.Requests.{is_promise}
use Rattle.jessie_semantics.specs.Play.{Call, call, send, when, far, Reply, given, refused, Exchange, Answered, Ending, returned, threw, Play, Ends, Spends, Asks, replies}

abbrev pub AllHave : (Tree → Type 0) → List Tree → Type 0
AllHave W [] = Unit {0}
AllHave W (v ∷ vs) = W v × AllHave W vs

-- the methods of a facet, each with its function, as the record that they were given as
abbrev pub method_fields : List (List ℕ × List ℕ) → Fields
method_fields [] = no_fields
method_fields (m ∷ ms) = field m.0 (function m.1) (method_fields ms)

-- its target or promise, the functions that it names, and its arguments. What is asked of `when` is a promise
abbrev pub CallHas : (Tree → Type 0) → Call → Type 0
CallHas W (call o x vs) = W (object o) × AllHave W vs
CallHas W (send o x vs) = W (object o) × AllHave W vs
CallHas W (when o f v) = (is_promise o.kind ≡ true) × W (object o) × W (function f) × W v
CallHas W (far x ms v) = W (fields (method_fields ms)) × W v

abbrev pub ReplyHas : (Tree → Type 0) → Reply → Type 0
ReplyHas W (given v) = W v
ReplyHas W (refused v) = W v

abbrev pub RepliesHave : (Tree → Type 0) → List Reply → Type 0
RepliesHave W [] = Unit {0}
RepliesHave W (r ∷ rs) = ReplyHas W r × RepliesHave W rs

abbrev pub EndingHas : (Tree → Type 0) → Ending → Type 0
EndingHas W (returned v) = W v
EndingHas W (threw v) = W v

-- the next call of the host, or the outcome with so many new state values
abbrev pub NextHas : (Tree → Type 0) → ℕ → Play → Type 0
NextHas W n (Ends e values) = EndingHas W e × (AllHave W values × (length values ≡ n))
NextHas W n Spends = Unit {0}
NextHas W n (Asks c go) = CallHas W c

-- ---- what data refers to: objects, and functions of the module

pub data Reference : Type 0 where
  to_object : Obj → Reference
  to_function : List ℕ → Reference

abbrev pub Known : Type 1
Known = Reference → Type 0

-- each object and each function that the tree holds is one of these
abbrev mutual
  pub Within : Known → Tree → Type 0
  Within K null = Unit {0}
  Within K (boolean b) = Unit {0}
  Within K (number z) = Unit {0}
  Within K (text t) = Unit {0}
  Within K (array ts) = ItemsWithin K ts
  Within K (fields fs) = FieldsWithin K fs
  Within K (object o) = K (to_object o)
  Within K (function f) = K (to_function f)

  pub ItemsWithin : Known → Items → Type 0
  ItemsWithin K no_items = Unit {0}
  ItemsWithin K (item t ts) = Within K t × ItemsWithin K ts

  pub FieldsWithin : Known → Fields → Type 0
  FieldsWithin K no_fields = Unit {0}
  FieldsWithin K (field x t fs) = Within K t × FieldsWithin K fs

-- the functions of the module
abbrev pub FunctionsKnown : Known → List Routine → Type 0
FunctionsKnown K [] = Unit {0}
FunctionsKnown K (r ∷ rs) = K (to_function r.name) × FunctionsKnown K rs

-- ---- where objects come from

-- the object stands in the tree
abbrev mutual
  pub Occurs : Obj → Tree → Type 0
  Occurs o null = ⊥
  Occurs o (boolean b) = ⊥
  Occurs o (number z) = ⊥
  Occurs o (text t) = ⊥
  Occurs o (array ts) = OccursItems o ts
  Occurs o (fields fs) = OccursFields o fs
  Occurs o (object p) = o ≡ p
  Occurs o (function f) = ⊥

  pub OccursItems : Obj → Items → Type 0
  OccursItems o no_items = ⊥
  OccursItems o (item t ts) = Occurs o t ⊎ OccursItems o ts

  pub OccursFields : Obj → Fields → Type 0
  OccursFields o no_fields = ⊥
  OccursFields o (field x t fs) = Occurs o t ⊎ OccursFields o fs

abbrev pub OccursAny : Obj → List Tree → Type 0
OccursAny o [] = ⊥
OccursAny o (v ∷ vs) = Occurs o v ⊎ OccursAny o vs

-- an object that stands in one of these, and any function
abbrev pub Handed : List Tree → Known
Handed vs (to_object o) = OccursAny o vs
Handed vs (to_function f) = Unit {0}

abbrev pub reply_tree : Reply → Tree
reply_tree (given v) = v
reply_tree (refused v) = v

-- what an evaluation was handed: its arguments, the old state values and the answers
abbrev pub handed : List Tree → List Tree → List Reply → List Tree
handed args values answers = args ++ (values ++ map reply_tree answers)

-- Each object in a host call, the outcome and the new state values stands in the arguments, the old
-- state values or an earlier answer; and there are n new state values.
pub record Licensed {W : Type 0} (step : W → Exchange → W → Type 0) (old new : W) (args values : List Tree) (n : ℕ) (r : Play) : Type 0 where
  pub since : List Exchange
  pub answered : Answered step old since new
  pub asks : (before : List Exchange) (x : Exchange) (rest : List Exchange) → since ≡ before ++ x ∷ rest → CallHas (Within (Handed (handed args values (replies before)))) x.call
  pub ends : NextHas (Within (Handed (handed args values (replies since)))) n r
