-- Data passes just where the instance may hold it.
use Rattle.std.specs.Prelude.{◌↔◌}
use Rattle.std.specs.Cmp.Lexicographic.{slice_cmp}
use Rattle.std.specs.Ordering.{nat_cmp}
use Rattle.std.specs.declared.cmp.Ordering.{Ordering}
use Rattle.std.specs.declared.cmp.Ordering.TheVariants.{Less, Equal, Greater}
use Rattle.std.proofs.Common.{◌≡◌, ℕ, ◌+◌, ◌<◌, ◌≤◌, Bool, true, false, List, [], ◌∷◌, Some, length, refl, arith}
use Rattle.std.proofs.lemmas.Bool.{and_from, and_parts, le-leb, leb-true}
use Rattle.refusals.specs.host_data.Nodes.{AreInOrder, Both, EachField, EachItem, EachNode, FunctionIs, HasFieldsInOrder, NodeFact, ObjectIs}
use Rattle.refusals.proofs.host_data.Nodes.{both, nested, shallow, weaker}
use Rattle.rules.specs.turn_records.Printable.{HaveFieldNames}
use Rattle.refusals.specs.host_data.Tree.{Before, Fields, Items, Tree, array, boolean, field, fields, function, item, nesting, no_fields, no_items, null, number, object, text}
use Rattle.rules.specs.world_state.Good.{IsGoodWorld}
use Rattle.rules.specs.world_state.Known.{FunctionKnown, HasNames, IsKnownTo, ObjectKnown}
use Rattle.rules.specs.world_state.Worlds.{State}
use Rattle.world_reads.specs.Tests.{before, in_order, is_less, knows, knows_fields, knows_items, passes}
use Rattle.world_reads.proofs.NamedObjects.{function_from, function_to, object_from, object_to}

-- ---- the order of fields

less_to : (o : Ordering) → is_less o ≡ true → o ≡ Less
less_to Less e = refl
less_to o e = cc

less_from : (o : Ordering) → o ≡ Less → is_less o ≡ true
less_from Less e = refl
less_from Equal e = cc
less_from Greater e = cc

before_to : (name : List ℕ) (fs : Fields) → before name fs ≡ true → Before name fs
before_to name no_fields e = tt
before_to name (field next t fs) e = less_to (slice_cmp nat_cmp name next) e

before_from : (name : List ℕ) (fs : Fields) → Before name fs → before name fs ≡ true
before_from name no_fields is = refl
before_from name (field next t fs) is = less_from (slice_cmp nat_cmp name next) is

order_to : (fs : Fields) → in_order fs ≡ true → AreInOrder fs
order_to no_fields e = tt
order_to (field name t fs) e = let p = and_parts _ _ e in (before_to name fs p.0, order_to fs p.1)

order_from : (fs : Fields) → AreInOrder fs → in_order fs ≡ true
order_from no_fields is = refl
order_from (field name t fs) is = and_from _ _ (before_from name fs is.0) (order_from fs is.1)

-- ---- nodes

module _ (w : State) (i : ℕ) (good : IsGoodWorld w) (made : i < length w.tables.instances) where
  abbrev Fact : NodeFact
  Fact = Both (ObjectIs (ObjectKnown (Some i) w)) (Both (FunctionIs (FunctionKnown (Some i) w)) (Both HasNames HasFieldsInOrder))

  names_in : (fs : Fields) → knows_fields w i fs ≡ true → HaveFieldNames fs
  names_in no_fields e = tt
  names_in (field name t fs) e = let p = and_parts _ _ e in ((and_parts _ _ p.0).0, names_in fs p.1)

  mutual
    to_node : (n : ℕ) (t : Tree) → knows w i t ≡ true → EachNode Fact n t
    to_node n null e = (tt, (tt, (tt, tt)))
    to_node n (boolean b) e = (tt, (tt, (tt, tt)))
    to_node n (number z) e = (tt, (tt, (tt, tt)))
    to_node n (text s) e = (tt, (tt, (tt, tt)))
    to_node n (array ts) e = ((tt, (tt, (tt, tt))), to_items (n + 1) ts e)
    to_node n (fields fs) e = let p = and_parts _ _ e in ((tt, (tt, (names_in fs p.1, order_to fs p.0))), to_fields (n + 1) fs p.1)
    to_node n (object o) e = (object_to w i o.kind o.number e, (tt, (tt, tt)))
    to_node n (function f) e = let p = and_parts _ _ e in (tt, (function_to w i f good made p.1, (p.0, tt)))

    to_items : (n : ℕ) (ts : Items) → knows_items w i ts ≡ true → EachItem Fact n ts
    to_items n no_items e = tt
    to_items n (item t ts) e = let p = and_parts _ _ e in (to_node n t p.0, to_items n ts p.1)

    to_fields : (n : ℕ) (fs : Fields) → knows_fields w i fs ≡ true → EachField Fact n fs
    to_fields n no_fields e = tt
    to_fields n (field name t fs) e = let p = and_parts _ _ e in (to_node n t (and_parts _ _ p.0).1, to_fields n fs p.1)

  mutual
    from_node : (n : ℕ) (t : Tree) → EachNode Fact n t → knows w i t ≡ true
    from_node n null is = refl
    from_node n (boolean b) is = refl
    from_node n (number z) is = refl
    from_node n (text s) is = refl
    from_node n (array ts) is = from_items (n + 1) ts is.1
    from_node n (fields fs) is = and_from _ _ (order_from fs is.0.1.1.1) (from_fields (n + 1) fs is.0.1.1.0 is.1)
    from_node n (object o) is = object_from w i o.kind o.number is.0
    from_node n (function f) is = and_from _ _ is.1.1.0 (function_from w i f is.1.0)

    from_items : (n : ℕ) (ts : Items) → EachItem Fact n ts → knows_items w i ts ≡ true
    from_items n no_items is = refl
    from_items n (item t ts) is = and_from _ _ (from_node n t is.0) (from_items n ts is.1)

    from_fields : (n : ℕ) (fs : Fields) → HaveFieldNames fs → EachField Fact n fs → knows_fields w i fs ≡ true
    from_fields n no_fields named is = refl
    from_fields n (field name t fs) named is = and_from _ _ (and_from _ _ named.0 (from_node n t is.0)) (from_fields n fs named.1 is.1)

  pub passed_known : (t : Tree) → passes w i t ≡ true → IsKnownTo w i t
  passed_known t e =
      let p = and_parts _ _ e in
      let each = to_node 0 t p.1 in
      let low = leb-true _ _ p.0 in
      record {
        objects = weaker Fact (ObjectIs (ObjectKnown (Some i) w)) (λ n t is. is.0) 0 t each;
        functions = weaker Fact (FunctionIs (FunctionKnown (Some i) w)) (λ n t is. is.1.0) 0 t each;
        named = weaker Fact HasNames (λ n t is. is.1.1.0) 0 t each;
        ordered = weaker Fact HasFieldsInOrder (λ n t is. is.1.1.1) 0 t each;
        shallow = shallow 32 0 t (omega (arith, low));
      }

  pub known_passes : (t : Tree) → IsKnownTo w i t → passes w i t ≡ true
  known_passes t is =
      let deep = nested 32 0 t (omega arith) is.shallow in
      and_from _ _ (le-leb _ _ (omega (arith, deep)))
      (from_node 0 t
      (both (ObjectIs (ObjectKnown (Some i) w)) (Both (FunctionIs (FunctionKnown (Some i) w)) (Both HasNames HasFieldsInOrder)) 0 t is.objects
      (both (FunctionIs (FunctionKnown (Some i) w)) (Both HasNames HasFieldsInOrder) 0 t is.functions
      (both HasNames HasFieldsInOrder 0 t is.named is.ordered))))
