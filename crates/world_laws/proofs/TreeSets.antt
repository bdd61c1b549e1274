-- Data is a set: two trees are the same in at most one way.
use Rattle.std.proofs.Common.{◌≡◌, ℕ, ℤ, Bool, List, [], ◌∷◌, refl, sym, ap, ◌∙◌}
use mathlib.Core.HLevel.{collapsible→set, prop→set, Unit-prop}
use mathlib.Core.List.{is_set as List-set}
use denote.Struct.Props.{props}
use Rattle.world_state.specs.host_data.Tree.{Tree, null, boolean, number, text, array, fields, object, function, Items, no_items, item, Fields, no_fields, field}
use Rattle.world_state.specs.host_data.declared.data.Obj.{Obj}
use Rattle.world_state.specs.host_data.contracts.data.Obj as an_obj

-- a type that maps into a set and back is a set
pub retract_set : {A B : Type 0} (to : A → B) (from : B → A) → ((x : A) → from (to x) ≡ x) → IsSet B → IsSet A
retract_set to from back set = collapsible→set (λ x y p. sym (back x) ∙ ap from (ap to p) ∙ back y)
    (λ x y p q. ap (λ z. sym (back x) ∙ ap from z ∙ back y) (set (to x) (to y) (ap to p) (ap to q)))

-- ---- data as a list of tokens, each part before what it is a part of

data Token : Type 0 where
  a_null : Token
  a_boolean : Bool → Token
  a_number : ℤ → Token
  a_text : List ℕ → Token
  an_array : Token
  a_record : Token
  an_object : Obj → Token
  a_function : List ℕ → Token
  last_item : Token
  an_item : Token
  last_field : Token
  a_field : List ℕ → Token

data Part : Type 0 where
  tree_part : Tree → Part
  items_part : Items → Part
  fields_part : Fields → Part

abbrev close_array : List Part → List Part
close_array (items_part ts ∷ ps) = tree_part (array ts) ∷ ps
close_array _ = []

abbrev close_record : List Part → List Part
close_record (fields_part fs ∷ ps) = tree_part (fields fs) ∷ ps
close_record _ = []

abbrev put_item : List Part → List Part
put_item (items_part ts ∷ (tree_part t ∷ ps)) = items_part (item t ts) ∷ ps
put_item _ = []

abbrev put_field : List ℕ → List Part → List Part
put_field x (fields_part fs ∷ (tree_part t ∷ ps)) = fields_part (field x t fs) ∷ ps
put_field x _ = []

abbrev take_token : Token → List Part → List Part
take_token a_null ps = tree_part null ∷ ps
take_token (a_boolean b) ps = tree_part (boolean b) ∷ ps
take_token (a_number z) ps = tree_part (number z) ∷ ps
take_token (a_text t) ps = tree_part (text t) ∷ ps
take_token an_array ps = close_array ps
take_token a_record ps = close_record ps
take_token (an_object o) ps = tree_part (object o) ∷ ps
take_token (a_function f) ps = tree_part (function f) ∷ ps
take_token last_item ps = items_part no_items ∷ ps
take_token an_item ps = put_item ps
take_token last_field ps = fields_part no_fields ∷ ps
take_token (a_field x) ps = put_field x ps

abbrev read : List Token → List Part → List Part
read [] ps = ps
read (t ∷ ts) ps = read ts (take_token t ps)

abbrev mutual
  written : Tree → List Token → List Token
  written null rest = a_null ∷ rest
  written (boolean b) rest = a_boolean b ∷ rest
  written (number z) rest = a_number z ∷ rest
  written (text t) rest = a_text t ∷ rest
  written (array ts) rest = written_items ts (an_array ∷ rest)
  written (fields fs) rest = written_fields fs (a_record ∷ rest)
  written (object o) rest = an_object o ∷ rest
  written (function f) rest = a_function f ∷ rest

  written_items : Items → List Token → List Token
  written_items no_items rest = last_item ∷ rest
  written_items (item t ts) rest = written t (written_items ts (an_item ∷ rest))

  written_fields : Fields → List Token → List Token
  written_fields no_fields rest = last_field ∷ rest
  written_fields (field x t fs) rest = written t (written_fields fs (a_field x ∷ rest))

mutual
  read_tree : (t : Tree) (rest : List Token) (ps : List Part) → read (written t rest) ps ≡ read rest (tree_part t ∷ ps)
  read_tree null rest ps = refl
  read_tree (boolean b) rest ps = refl
  read_tree (number z) rest ps = refl
  read_tree (text t) rest ps = refl
  read_tree (array ts) rest ps = read_items ts (an_array ∷ rest) ps
  read_tree (fields fs) rest ps = read_fields fs (a_record ∷ rest) ps
  read_tree (object o) rest ps = refl
  read_tree (function f) rest ps = refl

  read_items : (ts : Items) (rest : List Token) (ps : List Part) → read (written_items ts rest) ps ≡ read rest (items_part ts ∷ ps)
  read_items no_items rest ps = refl
  read_items (item t ts) rest ps = read_tree t (written_items ts (an_item ∷ rest)) ps ∙ read_items ts (an_item ∷ rest) (tree_part t ∷ ps)

  read_fields : (fs : Fields) (rest : List Token) (ps : List Part) → read (written_fields fs rest) ps ≡ read rest (fields_part fs ∷ ps)
  read_fields no_fields rest ps = refl
  read_fields (field x t fs) rest ps = read_tree t (written_fields fs (a_field x ∷ rest)) ps ∙ read_fields fs (a_field x ∷ rest) (tree_part t ∷ ps)

abbrev first_tree : List Part → Tree
first_tree (tree_part t ∷ ps) = t
first_tree _ = null

Token-set : IsSet Token
Token-set = hlevel (props, prop→set (Unit-prop {0}), an_obj.the_row.coded)

pub Tree-set : IsSet Tree
Tree-set = retract_set (λ t. written t []) (λ ts. first_tree (read ts [])) (λ t. ap first_tree (read_tree t [] [])) (List-set Token-set)
