-- Data that names a payment is printed so that it does, where the fields of its records stand in order.
use Rattle.std.specs.Prelude.{◌≡◌, ◌+◌, ◌||◌, ℕ, Bool, true, false, List, [], ◌∷◌, codes, refl}
use Rattle.std.specs.List.{AllByRecursion}
use Rattle.std.specs.Str.{bytes_eq}
use Rattle.std.proofs.Common.{inl, inr, ◌∙◌, ap}
use Rattle.std.proofs.lemmas.Slice.Eq.{bytes_eq-Decides}
use Rattle.fair_laws.proofs.Amounts.{members_of, record_printed}
use Rattle.fair_laws.specs.call_arguments.Arguments.{is_kind}
use Rattle.fair_laws.specs.fair_rows.ExitCauses.{name}
use Rattle.fair_laws.specs.rules.Licence.{IsObject, NamesPayment, SomeField, SomeItem, SomeObject}
use Rattle.fair_laws.specs.world_state.host_data.Nodes.{EachField, EachItem, EachNode, HasFieldsInOrder}
use Rattle.fair_laws.specs.world_state.host_data.Tree as trees
use Rattle.fair_laws.specs.world_state.host_data.Tree.{Fields, Items, Tree}
use Rattle.fair_laws.specs.world_state.host_data.declared.data.Obj.{Obj}
use Rattle.fair_laws.specs.world_state.host_data.declared.data.ObjKind.{ObjKind}
use Rattle.fair_laws.specs.world_state.host_data.declared.data.ObjKind.TheVariants as kinds
use Rattle.fair_laws.specs.world_state.turn_records.Names.{object_name}
use Rattle.fair_laws.specs.world_state.turn_records.Printed.{object, printed_trees}
use Rattle.fair_laws.specs.world_state.turn_records.PrintedData.{printed, printed_items}
use Rattle.licence_laws.specs.Spending.{items_name, members_name, names}

abbrev pub payment_name : ℕ → List ℕ
payment_name n = name (codes "payment") n

or_second : (a b : Bool) → b ≡ true → (a || b) ≡ true
or_second true b is = refl
or_second false b is = is

payment_kind : (k : ObjKind) → is_kind kinds.Payment k ≡ true → k ≡ kinds.Payment
payment_kind kinds.Payment e = refl
payment_kind k e = cc

named_so : (n : ℕ) (o : Obj) → IsObject kinds.Payment n o → object_name o ≡ payment_name n
unfolding object_name
named_so n o is = let kind = payment_kind o.kind is.kind_is in let number = is.number_is in ap object_name (λ i. object (kind i) (number i))

mark_named : (n : ℕ) (o : Obj) → IsObject kinds.Payment n o → names (payment_name n) (printed (trees.object o)) ≡ true
mark_named n o is =
    ap (λ s. bytes_eq (payment_name n) s || false) (named_so n o is) ∙ ap (λ b. b || false) ((bytes_eq-Decides (payment_name n) (payment_name n)).1 refl)

mutual
  unfolding members_of

  tree_named : (n k : ℕ) (t : Tree) → EachNode HasFieldsInOrder k t → SomeObject (IsObject kinds.Payment n) t → names (payment_name n) (printed t) ≡ true
  tree_named n k (trees.object o) order is = mark_named n o is
  tree_named n k (trees.array ts) order is = items_named n (k + 1) ts order.1 is
  tree_named n k (trees.fields fs) order is = ap (members_name (payment_name n)) (record_printed fs order.0) ∙ fields_named n (k + 1) fs order.1 is
  tree_named n k trees.null order is = absurd is
  tree_named n k (trees.boolean b) order is = absurd is
  tree_named n k (trees.number z) order is = absurd is
  tree_named n k (trees.text s) order is = absurd is
  tree_named n k (trees.function f) order is = absurd is

  items_named : (n k : ℕ) (ts : Items) → EachItem HasFieldsInOrder k ts → SomeItem (IsObject kinds.Payment n) ts → items_name (payment_name n) (printed_items ts) ≡ true
  items_named n k trees.no_items order is = absurd is
  items_named n k (trees.item t ts) order (inl is) = ap (λ b. b || items_name (payment_name n) (printed_items ts)) (tree_named n k t order.0 is)
  items_named n k (trees.item t ts) order (inr is) = or_second (names (payment_name n) (printed t)) (items_name (payment_name n) (printed_items ts)) (items_named n k ts order.1 is)

  fields_named : (n k : ℕ) (fs : Fields) → EachField HasFieldsInOrder k fs → SomeField (IsObject kinds.Payment n) fs → members_name (payment_name n) (members_of fs) ≡ true
  fields_named n k trees.no_fields order is = absurd is
  fields_named n k (trees.field f t fs) order (inl is) = or_second _ _ (ap (λ b. b || members_name (payment_name n) (members_of fs)) (tree_named n k t order.0 is))
  fields_named n k (trees.field f t fs) order (inr is) = or_second _ _ (or_second (names (payment_name n) (printed t)) (members_name (payment_name n) (members_of fs)) (fields_named n k fs order.1 is))

-- arguments that name a payment are printed so that they do
pub arguments_named : (n : ℕ) (args : List Tree) → AllByRecursion (λ (t : Tree). EachNode HasFieldsInOrder 0 t) args → NamesPayment args n → items_name (payment_name n) (printed_trees args) ≡ true
arguments_named n [] order is = absurd is
arguments_named n (t ∷ ts) order (inl is) = ap (λ b. b || items_name (payment_name n) (printed_trees ts)) (tree_named n 0 t order.0 is)
arguments_named n (t ∷ ts) order (inr is) = or_second (names (payment_name n) (printed t)) (items_name (payment_name n) (printed_trees ts)) (arguments_named n ts order.1 is)
