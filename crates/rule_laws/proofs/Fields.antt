-- Data at a depth that a caller may hold, and records that fields are put into in byte order.
use Rattle.std.proofs.Common.{◌≡◌, ◌≢◌, ℕ, ◌+◌, ◌<◌, Bool, true, false, cond, Option, Some, None, List, [], ◌∷◌, refl, sym, ◌∙◌, ap, arith, if◌then◌else◌}
use Rattle.std.specs.Cmp.Lexicographic.{slice_cmp}
use Rattle.std.specs.FinMap.{nat_cmp-IsAntisymmetric, slice_cmp-IsAntisymmetric}
use Rattle.std.specs.Ordering.{is_le, nat_cmp, ordering_reverse}
use Rattle.std.specs.Str.{bytes_eq}
use Rattle.std.specs.declared.cmp.Ordering.{Ordering}
use Rattle.std.specs.declared.cmp.Ordering.TheVariants.{Equal, Greater, Less}
use Rattle.std.proofs.lemmas.Cmp.{nat_list_cmp_total}
use Rattle.std.proofs.lemmas.Slice.Eq.{bytes_eq-Decides}
use Rattle.world_laws.specs.host_data.Nodes.{AreInOrder, EachField, EachNode, FunctionIs, HasFieldsInOrder, IsShallow, NodeFact, ObjectIs}
use Rattle.world_laws.specs.turn_records.Printable.{HaveFieldNames}
use Rattle.world_laws.specs.host_text.Words.{is_field_name, is_keyword}
use Rattle.world_laws.specs.host_data.Tree.{Before, Fields, Tree, field, fields, get, no_fields}
use Rattle.rules.specs.proposals.Slots.{is_upto}
use Rattle.world_laws.specs.world_state.Known.{FunctionKnown, HasNames, IsFormed, ObjectKnown}
use Rattle.world_laws.specs.world_state.Worlds.{State, placed_field}

-- data that lies at a depth, such as a holder may hold
pub record FormedAt (w : State) (h : Option ℕ) (d : ℕ) (t : Tree) : Type 0 where
  pub objects : EachNode (ObjectIs (ObjectKnown h w)) d t
  pub functions : EachNode (FunctionIs (FunctionKnown h w)) d t
  pub named : EachNode HasNames d t
  pub ordered : EachNode HasFieldsInOrder d t
  pub shallow : EachNode (IsShallow 32) d t

pub formed_here : (w : State) (h : Option ℕ) (t : Tree) → FormedAt w h 0 t → IsFormed w h t
formed_here w h t is = record { objects = is.objects; functions = is.functions; named = is.named; ordered = is.ordered; shallow = is.shallow }

-- fields that lie at a depth, likewise; in order, with names of their form
pub record AreFormed (w : State) (h : Option ℕ) (d : ℕ) (fs : Fields) : Type 0 where
  pub objects : EachField (ObjectIs (ObjectKnown h w)) d fs
  pub functions : EachField (FunctionIs (FunctionKnown h w)) d fs
  pub names : HaveFieldNames fs
  pub named : EachField HasNames d fs
  pub order : AreInOrder fs
  pub ordered : EachField HasFieldsInOrder d fs
  pub shallow : EachField (IsShallow 32) d fs

pub record_formed : (w : State) (h : Option ℕ) (d : ℕ) (fs : Fields) → d < 32 → AreFormed w h (d + 1) fs → FormedAt w h d (fields fs)
record_formed w h d fs low are = record {
  objects = (tt, are.objects);
  functions = (tt, are.functions);
  named = (are.names, are.named);
  ordered = (are.order, are.ordered);
  shallow = (low, are.shallow);
}

pub record_parts : (w : State) (h : Option ℕ) (fs : Fields) → IsFormed w h (fields fs) → AreFormed w h 1 fs
record_parts w h fs is = record {
  objects = is.objects.1;
  functions = is.functions.1;
  names = is.named.0;
  named = is.named.1;
  order = is.ordered.0;
  ordered = is.ordered.1;
  shallow = is.shallow.1;
}

pub no_fields_formed : (w : State) (h : Option ℕ) (d : ℕ) → AreFormed w h d no_fields
no_fields_formed w h d = record { objects = tt; functions = tt; names = tt; named = tt; order = tt; ordered = tt; shallow = tt }

-- ---- a field that is put in

-- none of the fields has the name
abbrev pub HasNoField : List ℕ → Fields → Type 0
HasNoField name no_fields = Unit {0}
HasNoField name (field next t fs) = (next ≢ name) × HasNoField name fs

pub no_field_placed : (name other : List ℕ) (t : Tree) (fs : Fields) → other ≢ name → HasNoField name fs → HasNoField name (placed_field other t fs)
no_field_placed name other t no_fields differs none = (differs, tt)
no_field_placed name other t (field next u fs) differs none = by (is_upto other next) (no_field_placed name other t fs differs none.1)
  where
    by : (b : Bool) → HasNoField name (placed_field other t fs) → HasNoField name (if b then field other t (field next u fs) else field next u (placed_field other t fs))
    by true rest = (differs, none)
    by false rest = (none.0, rest)

skipped : {X : Type 0} (b : Bool) (x : X) (o : Option X) → cond b (Some x) o ≡ None → (b ≡ false) × (o ≡ None)
skipped true x o h = absurd (cc)
skipped false x o h = (refl, h)

pub other_name : (k q : List ℕ) → bytes_eq k q ≡ false → q ≢ k
other_name k q e is = let clash : true ≡ false = sym ((bytes_eq-Decides k q).1 (sym is)) ∙ e in cc

pub differs : (k q : List ℕ) → bytes_eq k q ≡ false → k ≢ q
differs k q e is = let clash : true ≡ false = sym ((bytes_eq-Decides k q).1 is) ∙ e in cc

-- a record without a field of the name has none
pub none_got : (name : List ℕ) (fs : Fields) → get name fs ≡ None → HasNoField name fs
none_got name no_fields is = tt
none_got name (field next t fs) is =
    let both = skipped (bytes_eq next name) t (get name fs) is in
    (differs next name both.0, none_got name fs both.1)

placed_each : (F : NodeFact) (n : ℕ) (name : List ℕ) (t : Tree) (fs : Fields) → EachNode F n t → EachField F n fs → EachField F n (placed_field name t fs)
placed_each F n name t no_fields one all = (one, tt)
placed_each F n name t (field next u fs) one all = by (is_upto name next) (placed_each F n name t fs one all.1)
  where
    by : (b : Bool) → EachField F n (placed_field name t fs) → EachField F n (if b then field name t (field next u fs) else field next u (placed_field name t fs))
    by true rest = (one, all)
    by false rest = (all.0, rest)

before_placed : (name other : List ℕ) (t : Tree) (fs : Fields) → slice_cmp nat_cmp name other ≡ Less → Before name fs → Before name (placed_field other t fs)
before_placed name other t no_fields less before = less
before_placed name other t (field next u fs) less before = by (is_upto other next)
  where
    by : (b : Bool) → Before name (if b then field other t (field next u fs) else field next u (placed_field other t fs))
    by true = less
    by false = before

placed_in_order : (name : List ℕ) (t : Tree) (fs : Fields) → HasNoField name fs → AreInOrder fs → AreInOrder (placed_field name t fs)
placed_in_order name t no_fields none order = (tt, tt)
placed_in_order name t (field next u fs) none order = by (slice_cmp nat_cmp name next) refl (placed_in_order name t fs none.1 order.1)
  where
    by : (o : Ordering) → slice_cmp nat_cmp name next ≡ o → AreInOrder (placed_field name t fs) → AreInOrder (if is_le o then field name t (field next u fs) else field next u (placed_field name t fs))
    by Less e rest = (e, order)
    by Equal e rest = absurd (none.0 (sym (slice_cmp-IsAntisymmetric nat_cmp-IsAntisymmetric name next e)))
    by Greater e rest = (before_placed next name t fs (nat_list_cmp_total.antisymm next name ∙ ap ordering_reverse e) order.0, rest)

placed_named : (name : List ℕ) (t : Tree) (fs : Fields) → is_field_name name ≡ true → HaveFieldNames fs → HaveFieldNames (placed_field name t fs)
placed_named name t no_fields one all = (one, tt)
placed_named name t (field next u fs) one all = by (is_upto name next) (placed_named name t fs one all.1)
  where
    by : (b : Bool) → HaveFieldNames (placed_field name t fs) → HaveFieldNames (if b then field name t (field next u fs) else field next u (placed_field name t fs))
    by true rest = (one, all)
    by false rest = (all.0, rest)

pub placed_formed : (w : State) (h : Option ℕ) (d : ℕ) (name : List ℕ) (t : Tree) (fs : Fields) → is_field_name name ≡ true → HasNoField name fs → FormedAt w h d t → AreFormed w h d fs → AreFormed w h d (placed_field name t fs)
placed_formed w h d name t fs good none one all = record {
  objects = placed_each (ObjectIs (ObjectKnown h w)) d name t fs one.objects all.objects;
  functions = placed_each (FunctionIs (FunctionKnown h w)) d name t fs one.functions all.functions;
  names = placed_named name t fs good all.names;
  named = placed_each HasNames d name t fs one.named all.named;
  order = placed_in_order name t fs none all.order;
  ordered = placed_each HasFieldsInOrder d name t fs one.ordered all.ordered;
  shallow = placed_each (IsShallow 32) d name t fs one.shallow all.shallow;
}

pub keyword_named : (k : List ℕ) → is_keyword k ≡ true → is_field_name k ≡ true
keyword_named [] is = absurd (cc)
keyword_named (b ∷ bs) is = grind arith
