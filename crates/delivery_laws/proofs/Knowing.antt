-- What an instance may hold, as the rules of evaluation speak of it: what it refers to is known, it is in form, and
-- its names are.
use Rattle.std.proofs.Common.{◌≡◌, ℕ, ◌+◌, false, Some, None, arith}
use Rattle.turn_writer.specs.host_data.Nodes.{Both, EachField, EachItem, EachNode, FunctionIs, IsFree, ObjectIs}
use Rattle.turn_writer.proofs.host_data.Nodes.{both, free, in_order_throughout, nested, ordered, shallow, weaker}
use Rattle.delivery_turns.specs.turn_records.Printable.{HaveFieldNames}
use Rattle.rule_laws.specs.jessie_semantics.Form.{InForm}
use Rattle.rule_laws.specs.jessie_semantics.Keeping.{FieldsWithin, ItemsWithin, Known, Within, to_function, to_object}
use Rattle.rule_laws.specs.jessie_semantics.Naming.{FieldNamesAre, HasFieldNames, IsFieldName, ItemNamesAre}
use Rattle.turn_writer.specs.host_data.Tree.{Tree, null, boolean, number, text, array, fields, object, function, Items, no_items, item, Fields, no_fields, field, is_local, stays}
use Rattle.turn_writer.specs.host_data.declared.data.ObjKind.{ObjKind}
use Rattle.turn_writer.specs.host_data.declared.data.ObjKind.TheVariants as kinds
use Rattle.delivery_turns.specs.world_state.Known.{FunctionKnown, HasNames, IsHanded, IsKnownTo, ObjectKnown, known_as, made_as}
use Rattle.delivery_turns.specs.world_state.Worlds.{State}

-- ---- what data refers to

-- what an instance may refer to
abbrev pub Refers : State → ℕ → Known
Refers w i (to_object o) = ObjectKnown (Some i) w o
Refers w i (to_function f) = FunctionKnown (Some i) w f

module _ (w : State) (i : ℕ) where
  mutual
    refers : (n : ℕ) (t : Tree) → EachNode (ObjectIs (ObjectKnown (Some i) w)) n t → EachNode (FunctionIs (FunctionKnown (Some i) w)) n t → Within (Refers w i) t
    refers n null o f = tt
    refers n (boolean b) o f = tt
    refers n (number z) o f = tt
    refers n (text s) o f = tt
    refers n (array ts) o f = refer_items (n + 1) ts o.1 f.1
    refers n (fields fs) o f = refer_fields (n + 1) fs o.1 f.1
    refers n (object x) o f = o
    refers n (function x) o f = f

    refer_items : (n : ℕ) (ts : Items) → EachItem (ObjectIs (ObjectKnown (Some i) w)) n ts → EachItem (FunctionIs (FunctionKnown (Some i) w)) n ts → ItemsWithin (Refers w i) ts
    refer_items n no_items o f = tt
    refer_items n (item t ts) o f = (refers n t o.0 f.0, refer_items n ts o.1 f.1)

    refer_fields : (n : ℕ) (fs : Fields) → EachField (ObjectIs (ObjectKnown (Some i) w)) n fs → EachField (FunctionIs (FunctionKnown (Some i) w)) n fs → FieldsWithin (Refers w i) fs
    refer_fields n no_fields o f = tt
    refer_fields n (field x t fs) o f = (refers n t o.0 f.0, refer_fields n fs o.1 f.1)

  mutual
    objects_in : (n : ℕ) (t : Tree) → Within (Refers w i) t → EachNode (ObjectIs (ObjectKnown (Some i) w)) n t
    objects_in n null h = tt
    objects_in n (boolean b) h = tt
    objects_in n (number z) h = tt
    objects_in n (text s) h = tt
    objects_in n (array ts) h = (tt, item_objects (n + 1) ts h)
    objects_in n (fields fs) h = (tt, field_objects (n + 1) fs h)
    objects_in n (object x) h = h
    objects_in n (function x) h = tt

    item_objects : (n : ℕ) (ts : Items) → ItemsWithin (Refers w i) ts → EachItem (ObjectIs (ObjectKnown (Some i) w)) n ts
    item_objects n no_items h = tt
    item_objects n (item t ts) h = (objects_in n t h.0, item_objects n ts h.1)

    field_objects : (n : ℕ) (fs : Fields) → FieldsWithin (Refers w i) fs → EachField (ObjectIs (ObjectKnown (Some i) w)) n fs
    field_objects n no_fields h = tt
    field_objects n (field x t fs) h = (objects_in n t h.0, field_objects n fs h.1)

  mutual
    functions_in : (n : ℕ) (t : Tree) → Within (Refers w i) t → EachNode (FunctionIs (FunctionKnown (Some i) w)) n t
    functions_in n null h = tt
    functions_in n (boolean b) h = tt
    functions_in n (number z) h = tt
    functions_in n (text s) h = tt
    functions_in n (array ts) h = (tt, item_functions (n + 1) ts h)
    functions_in n (fields fs) h = (tt, field_functions (n + 1) fs h)
    functions_in n (object x) h = tt
    functions_in n (function x) h = h

    item_functions : (n : ℕ) (ts : Items) → ItemsWithin (Refers w i) ts → EachItem (FunctionIs (FunctionKnown (Some i) w)) n ts
    item_functions n no_items h = tt
    item_functions n (item t ts) h = (functions_in n t h.0, item_functions n ts h.1)

    field_functions : (n : ℕ) (fs : Fields) → FieldsWithin (Refers w i) fs → EachField (FunctionIs (FunctionKnown (Some i) w)) n fs
    field_functions n no_fields h = tt
    field_functions n (field x t fs) h = (functions_in n t h.0, field_functions n fs h.1)

-- ---- names

mutual
  names_there : (n : ℕ) (t : Tree) → EachNode HasNames n t → HasFieldNames t
  names_there n null h = tt
  names_there n (boolean b) h = tt
  names_there n (number z) h = tt
  names_there n (text s) h = tt
  names_there n (array ts) h = item_names (n + 1) ts h.1
  names_there n (fields fs) h = field_names (n + 1) fs h.0 h.1
  names_there n (object x) h = tt
  names_there n (function x) h = h

  item_names : (n : ℕ) (ts : Items) → EachItem HasNames n ts → ItemNamesAre IsFieldName ts
  item_names n no_items h = tt
  item_names n (item t ts) h = (names_there n t h.0, item_names n ts h.1)

  field_names : (n : ℕ) (fs : Fields) → HaveFieldNames fs → EachField HasNames n fs → FieldNamesAre IsFieldName fs
  field_names n no_fields k h = tt
  field_names n (field x t fs) k h = (k.0, names_there n t h.0, field_names n fs k.1 h.1)

own_names : (fs : Fields) → FieldNamesAre IsFieldName fs → HaveFieldNames fs
own_names no_fields h = tt
own_names (field x t fs) h = (h.0, own_names fs h.2)

mutual
  names_throughout : (n : ℕ) (t : Tree) → HasFieldNames t → EachNode HasNames n t
  names_throughout n null h = tt
  names_throughout n (boolean b) h = tt
  names_throughout n (number z) h = tt
  names_throughout n (text s) h = tt
  names_throughout n (array ts) h = (tt, names_of_items (n + 1) ts h)
  names_throughout n (fields fs) h = (own_names fs h, names_of_fields (n + 1) fs h)
  names_throughout n (object x) h = tt
  names_throughout n (function x) h = h

  names_of_items : (n : ℕ) (ts : Items) → ItemNamesAre IsFieldName ts → EachItem HasNames n ts
  names_of_items n no_items h = tt
  names_of_items n (item t ts) h = (names_throughout n t h.0, names_of_items n ts h.1)

  names_of_fields : (n : ℕ) (fs : Fields) → FieldNamesAre IsFieldName fs → EachField HasNames n fs
  names_of_fields n no_fields h = tt
  names_of_fields n (field x t fs) h = (names_throughout n t h.1, names_of_fields n fs h.2)

-- ---- all together

pub within_of : (w : State) (i : ℕ) (t : Tree) → IsKnownTo w i t → Within (Refers w i) t
within_of w i t is = refers w i 0 t is.objects is.functions

pub form_of : (w : State) (i : ℕ) (t : Tree) → IsKnownTo w i t → InForm t
form_of w i t is = (in_order_throughout 0 t is.ordered, let n = nested 32 0 t (omega arith) is.shallow in omega (arith, n))

pub names_of : (w : State) (i : ℕ) (t : Tree) → IsKnownTo w i t → HasFieldNames t
names_of w i t is = names_there 0 t is.named

pub known_of : (w : State) (i : ℕ) (t : Tree) → Within (Refers w i) t → InForm t → HasFieldNames t → IsKnownTo w i t
known_of w i t known form names = record {
  objects = objects_in w i 0 t known;
  functions = functions_in w i 0 t known;
  named = names_throughout 0 t names;
  ordered = ordered 0 t form.0;
  shallow = shallow 32 0 t (let n = form.1 in omega (arith, n));
}

-- ---- what may leave its instance

module _ (w : State) (i : ℕ) where
  free_object : (k : ObjKind) (n : ℕ) → stays k ≡ false → known_as i w k n → made_as w k n
  free_object kinds.Zcf n free is = cc
  free_object kinds.Zseat n free is = cc
  free_object kinds.Zmint n free is = cc
  free_object k n free is = is

  free_node : (n : ℕ) (t : Tree) → Both (ObjectIs (ObjectKnown (Some i) w)) IsFree n t → ObjectIs (ObjectKnown None w) n t
  free_node n (object o) h = free_object o.kind o.number h.1 h.0
  free_node n _ h = tt

  free_function : (n : ℕ) (t : Tree) → IsFree n t → FunctionIs (FunctionKnown None w) n t
  free_function n (function f) h = absurd h
  free_function n _ h = tt

  pub handed_of : (t : Tree) → is_local t ≡ false → IsKnownTo w i t → IsHanded w t
  handed_of t local is = record {
    objects = weaker (Both (ObjectIs (ObjectKnown (Some i) w)) IsFree) (ObjectIs (ObjectKnown None w)) free_node 0 t (both _ _ 0 t is.objects (free 0 t local));
    functions = weaker IsFree (FunctionIs (FunctionKnown None w)) free_function 0 t (free 0 t local);
    named = is.named;
    ordered = is.ordered;
    shallow = is.shallow;
  }
