-- That a world is good is stable: of a truncated proof there is one.
use Rattle.std.specs.Prelude.{IsSomeAnd}
use Rattle.std.specs.Coded.{le_prop, ×_prop}
use Rattle.std.proofs.Common.{ℕ, ℤ, pos, negsuc, ◌+◌, List, [], ◌∷◌, Option, Some, None}
use Rattle.std.proofs.Math.Logic.{∥∥₁_map}
use mathlib.Core.HLevel.{prop→set, Unit-prop}
use denote.Struct.Props.{props}
use Rattle.world_state.specs.amount_math.Content.{Content, coded_content}
use Rattle.world_state.specs.amount_math.ValueView.{IsValue}
use Rattle.world_state.specs.amount_math.declared.Amount.{Amount}
use Rattle.world_state.specs.amount_math.declared.Kind.{Kind}
use Rattle.world_state.specs.amount_math.declared.Kind.TheVariants.{Bag, Nat, Set}
use Rattle.world_state.specs.brands.IssuerRecords as issuers_of
use Rattle.world_state.specs.brands.declared.issuer_record.Issuer.{Issuer}
use Rattle.world_state.specs.amount_math.Amount.{Meet}
use Rattle.world_state.specs.host_data.Nodes.{AreInOrder, EachField, EachItem, EachNode, FunctionIs, HasFieldsInOrder, IsShallow, NodeFact, ObjectIs}
use Rattle.world_state.specs.turn_records.Printable.{HaveFieldNames, IsNumber}
use Rattle.world_state.specs.host_data.Tree.{Before, Fields, Items, Tree, array, boolean, field, fields, function, item, no_fields, no_items, null, number, object, text}
use Rattle.world_state.specs.host_data.declared.data.Obj.{Obj}
use Rattle.world_state.specs.host_data.declared.data.ObjKind.{ObjKind}
use Rattle.world_state.specs.host_data.declared.data.ObjKind.TheVariants as kinds
use Rattle.world_state.specs.proposals.Shares as shares_of
use Rattle.world_state.specs.proposals.Shares.{amount_under}
use Rattle.world_state.specs.proposals.declared.allocations.Share.{Share}
use Rattle.world_laws.proofs.Contents.{safe_stable}
use Rattle.world_laws.proofs.Names.{named_stable, writes_prop}
use Rattle.world_state.specs.Good.{AreTerms, HasSlot, IsDue, IsGoodWorld, IsRule, IsSettling, IsTimed, IsTimedEntry}
use Rattle.world_state.specs.Known.{FunctionKnown, HasNames, HasWidth, IsFormed, IsPlain, ObjectKnown, known_as, made_as}
use Rattle.world_state.specs.promise_store.Linked.{IsForest}
use Rattle.world_state.specs.promise_store.States.{SettlementView, broken, ok}
use Rattle.world_state.specs.promise_store.declared.links.Following.{Following}
use Rattle.world_state.specs.proposals.declared.offers.Exit.{Exit}
use Rattle.world_state.specs.proposals.declared.offers.Exit.TheVariants.{AfterDeadline, OnDemand, Waived}
use Rattle.std.proofs.lemmas.Str.{IsUtf8-had}
use Rattle.world_state.specs.turn_records.Deliveries as deliveries
use Rattle.world_state.specs.turn_records.Deliveries.{Delivery}
use Rattle.world_state.specs.turn_records.Messages as parts
use Rattle.world_state.specs.turn_records.Messages.{FieldParts, LineCall, LineGift, Part, Parts}
use Rattle.world_state.specs.Lines.{AreFormedFields, AreFormedParts, IsBefore, IsFormedCall, IsFormedGift, IsFormedPart}
use Rattle.world_state.specs.lemmas.Stable.{IsStable}
use Rattle.world_state.proofs.lemmas.Parts.{stable_all, stable_both, stable_each, stable_if, stable_like, stable_prop}
use Rattle.world_laws.proofs.Paid.{paid_stable}
use Rattle.world_laws.proofs.TreeSets.{Tree-set}
use Rattle.world_state.specs.Worlds.{State}

never_prop : IsProp ⊥
never_prop x y = absurd x

unit_stable : IsStable (Unit {0})
unit_stable = stable_prop Unit-prop

pub Unit-set : IsSet (Unit {0})
Unit-set = prop→set Unit-prop

pub ruleset world_facts = (props, Unit-set, Tree-set, coded_content)

pub ruleset stable_parts = (stable_prop, stable_both, stable_each, stable_like, stable_all, stable_if)

value_prop : (k : Kind) (c : Content) → IsProp (IsValue k c)
value_prop Nat c = hlevel (props, coded_content)
value_prop Set c = hlevel (props, coded_content)
value_prop Bag c = hlevel (props, coded_content)

-- ---- shares and issuers of keywords of their own

apart_prop : (shares : List Share) → IsProp (shares_of.AreApart shares)
apart_prop [] = Unit-prop
apart_prop (r ∷ rs) = hlevel (world_facts, apart_prop rs)

issuers_prop : (xs : List Issuer) → IsProp (issuers_of.AreApart xs)
issuers_prop [] = Unit-prop
issuers_prop (i ∷ xs) = hlevel (world_facts, issuers_prop xs)

slot_prop : (slots : List Share) (r : Share) → IsProp (HasSlot slots r)
slot_prop slots r = by (amount_under r.keyword slots)
  where
    by : (o : Option Amount) → IsProp (IsSomeAnd o (λ slot. Meet slot r.amount))
    by None = never_prop
    by (Some a) = hlevel world_facts

-- ---- nodes of data

module _ (P : NodeFact) (at : (n : ℕ) (t : Tree) → IsStable (P n t)) where
  mutual
    node_stable : (n : ℕ) (t : Tree) → IsStable (EachNode P n t)
    node_stable n (array ts) = stable_both (at n (array ts)) (items_stable (n + 1) ts)
    node_stable n (fields fs) = stable_both (at n (fields fs)) (fields_stable (n + 1) fs)
    node_stable n null = at n null
    node_stable n (boolean b) = at n (boolean b)
    node_stable n (number z) = at n (number z)
    node_stable n (text s) = at n (text s)
    node_stable n (object o) = at n (object o)
    node_stable n (function f) = at n (function f)

    items_stable : (n : ℕ) (ts : Items) → IsStable (EachItem P n ts)
    items_stable n no_items = unit_stable
    items_stable n (item t ts) = stable_both (node_stable n t) (items_stable n ts)

    fields_stable : (n : ℕ) (fs : Fields) → IsStable (EachField P n fs)
    fields_stable n no_fields = unit_stable
    fields_stable n (field x t fs) = stable_both (node_stable n t) (fields_stable n fs)

object_stable : (P : Obj → Type 0) → ((o : Obj) → IsStable (P o)) → (n : ℕ) (t : Tree) → IsStable (ObjectIs P n t)
object_stable P at n (object o) = at o
object_stable P at n _ = unit_stable

function_stable : (P : List ℕ → Type 0) → ((f : List ℕ) → IsStable (P f)) → (n : ℕ) (t : Tree) → IsStable (FunctionIs P n t)
function_stable P at n (function f) = at f
function_stable P at n _ = unit_stable

names_prop : (fs : Fields) → IsProp (HaveFieldNames fs)
names_prop no_fields = Unit-prop
names_prop (field x t fs) = hlevel (world_facts, names_prop fs)

named_stable_at : (n : ℕ) (t : Tree) → IsStable (HasNames n t)
named_stable_at n (fields fs) = stable_prop (names_prop fs)
named_stable_at n (function f) = hlevel (stable_prop, world_facts)
named_stable_at n _ = unit_stable

before_prop : (x : List ℕ) (fs : Fields) → IsProp (Before x fs)
before_prop x no_fields = Unit-prop
before_prop x (field y t fs) = hlevel world_facts

order_prop : (fs : Fields) → IsProp (AreInOrder fs)
order_prop no_fields = Unit-prop
order_prop (field x t fs) = hlevel (before_prop x fs, order_prop fs)

order_stable : (n : ℕ) (t : Tree) → IsStable (HasFieldsInOrder n t)
order_stable n (fields fs) = stable_prop (order_prop fs)
order_stable n _ = unit_stable

shallow_stable : (d n : ℕ) (t : Tree) → IsStable (IsShallow d n t)
shallow_stable d n (array ts) = stable_prop le_prop
shallow_stable d n (fields fs) = stable_prop le_prop
shallow_stable d n _ = unit_stable

number_prop : (z : ℤ) → IsProp (IsNumber z)
number_prop (pos n) = le_prop
number_prop (negsuc n) = le_prop

width_stable : (n : ℕ) (t : Tree) → IsStable (HasWidth n t)
width_stable n (number z) = stable_prop (number_prop z)
width_stable n (text s) = record { told = IsUtf8-had s }
width_stable n (object o) = stable_prop le_prop
width_stable n _ = unit_stable

-- ---- what is known

made_stable : (w : State) (kind : ObjKind) (n : ℕ) → IsStable (made_as w kind n)
made_stable w kinds.Ertp n = hlevel (stable_prop, world_facts)
made_stable w kinds.Zoe n = hlevel (stable_prop, world_facts)
made_stable w kinds.Timer n = hlevel (stable_prop, world_facts)
made_stable w (kinds.Brand k) n = hlevel (stable_prop, world_facts)
made_stable w kinds.Issuer n = hlevel (stable_prop, world_facts)
made_stable w kinds.Mint n = hlevel (stable_prop, world_facts)
made_stable w kinds.Purse n = hlevel (stable_prop, world_facts)
made_stable w kinds.Deposit n = hlevel (stable_prop, world_facts)
made_stable w kinds.Payment n = hlevel (stable_prop, world_facts)
made_stable w kinds.Installation n = hlevel (stable_prop, world_facts)
made_stable w kinds.Instance n = hlevel (stable_prop, world_facts)
made_stable w kinds.Zcf n = stable_prop never_prop
made_stable w kinds.Seat n = hlevel (stable_prop, world_facts)
made_stable w kinds.Zseat n = stable_prop never_prop
made_stable w kinds.Zmint n = stable_prop never_prop
made_stable w kinds.Facet n = hlevel (stable_prop, world_facts)
made_stable w kinds.Promise n = hlevel (stable_prop, world_facts)

known_stable : (i : ℕ) (w : State) (kind : ObjKind) (n : ℕ) → IsStable (known_as i w kind n)
known_stable i w kinds.Zcf n = hlevel (stable_prop, world_facts)
known_stable i w kinds.Zseat n = hlevel (stable_prop, world_facts)
known_stable i w kinds.Zmint n = hlevel (stable_prop, world_facts)
known_stable i w kind n = made_stable w kind n

function_known_stable : (h : Option ℕ) (w : State) (f : List ℕ) → IsStable (FunctionKnown h w f)
function_known_stable None w f = stable_prop never_prop
function_known_stable (Some i) w f = hlevel (stable_prop, stable_both, stable_like, named_stable, world_facts)

object_known_stable : (h : Option ℕ) (w : State) (o : Obj) → IsStable (ObjectKnown h w o)
object_known_stable None w o = made_stable w o.kind o.number
object_known_stable (Some i) w o = known_stable i w o.kind o.number

formed_stable : (w : State) (h : Option ℕ) (t : Tree) → IsStable (IsFormed w h t)
formed_stable w h t = record {
  told = λ is. record {
    objects = (node_stable (ObjectIs (ObjectKnown h w)) (object_stable (ObjectKnown h w) (object_known_stable h w)) 0 t).told (∥∥₁_map is (λ f. f.objects));
    functions = (node_stable (FunctionIs (FunctionKnown h w)) (function_stable (FunctionKnown h w) (function_known_stable h w)) 0 t).told (∥∥₁_map is (λ f. f.functions));
    named = (node_stable HasNames named_stable_at 0 t).told (∥∥₁_map is (λ f. f.named));
    ordered = (node_stable HasFieldsInOrder order_stable 0 t).told (∥∥₁_map is (λ f. f.ordered));
    shallow = (node_stable (IsShallow 32) (shallow_stable 32) 0 t).told (∥∥₁_map is (λ f. f.shallow));
  };
}

plain_stable : (t : Tree) → IsStable (IsPlain t)
plain_stable t = record {
  told = λ is. record {
    objects = (node_stable (ObjectIs (λ o. ⊥)) (object_stable (λ o. ⊥) (λ o. stable_prop never_prop)) 0 t).told (∥∥₁_map is (λ f. f.objects));
    functions = (node_stable (FunctionIs (λ f. ⊥)) (function_stable (λ f. ⊥) (λ f. stable_prop never_prop)) 0 t).told (∥∥₁_map is (λ f. f.functions));
    named = (node_stable HasNames named_stable_at 0 t).told (∥∥₁_map is (λ f. f.named));
    ordered = (node_stable HasFieldsInOrder order_stable 0 t).told (∥∥₁_map is (λ f. f.ordered));
    shallow = (node_stable (IsShallow 32) (shallow_stable 32) 0 t).told (∥∥₁_map is (λ f. f.shallow));
    sized = (node_stable HasWidth width_stable 0 t).told (∥∥₁_map is (λ f. f.sized));
  };
}

-- ---- what the world has

rule_prop : (e : Exit) → IsProp (IsRule e)
rule_prop (AfterDeadline t) = le_prop
rule_prop OnDemand = Unit-prop
rule_prop Waived = Unit-prop

terms_prop : (t : Tree) → IsProp (AreTerms t)
terms_prop (fields fs) = hlevel world_facts
terms_prop null = never_prop
terms_prop (boolean b) = never_prop
terms_prop (number z) = never_prop
terms_prop (text s) = never_prop
terms_prop (array ts) = never_prop
terms_prop (object o) = never_prop
terms_prop (function f) = never_prop

settling_stable : (w : State) (v : SettlementView) → IsStable (IsSettling w v)
settling_stable w (ok t) = formed_stable w None t
settling_stable w (broken t) = formed_stable w None t

forest_prop : (fs : List Following) → IsProp (IsForest fs)
forest_prop [] = Unit-prop
forest_prop (f ∷ fs) = hlevel (world_facts, forest_prop fs)

-- ---- what waits

before_parts_prop : (x : List ℕ) (fs : FieldParts) → IsProp (IsBefore x fs)
before_parts_prop x parts.no_fields = Unit-prop
before_parts_prop x (parts.field y p fs) = hlevel world_facts

mutual
  part_prop : (n : ℕ) (p : Part) → IsProp (IsFormedPart n p)
  part_prop n (parts.array ps) = ×_prop le_prop (parts_prop (n + 1) ps)
  part_prop n (parts.fields fs) = ×_prop le_prop (field_parts_prop (n + 1) fs)
  part_prop n parts.null = Unit-prop
  part_prop n (parts.boolean b) = Unit-prop
  part_prop n (parts.number z) = Unit-prop
  part_prop n (parts.text s) = Unit-prop
  part_prop n (parts.path s) = Unit-prop

  parts_prop : (n : ℕ) (ps : Parts) → IsProp (AreFormedParts n ps)
  parts_prop n parts.no_parts = Unit-prop
  parts_prop n (parts.part p ps) = ×_prop (part_prop n p) (parts_prop n ps)

  field_parts_prop : (n : ℕ) (fs : FieldParts) → IsProp (AreFormedFields n fs)
  field_parts_prop n parts.no_fields = Unit-prop
  field_parts_prop n (parts.field x p fs) = hlevel (world_facts, before_parts_prop x fs, part_prop n p, field_parts_prop n fs)

call_prop : (c : LineCall) → IsProp (IsFormedCall c)
call_prop c = hlevel (world_facts, parts_prop)

gift_prop : (g : LineGift) → IsProp (IsFormedGift g)
gift_prop g = hlevel world_facts

due_stable : (w : State) (d : Delivery) → IsStable (IsDue w d)
due_stable w (deliveries.call c) = stable_prop (call_prop c)
due_stable w (deliveries.give g) = stable_prop (gift_prop g)
due_stable w (deliveries.tick t) = stable_prop le_prop
due_stable w (deliveries.bad r) = unit_stable
due_stable w (deliveries.send s) = hlevel (stable_parts, world_facts, formed_stable)
due_stable w (deliveries.start s) = hlevel (stable_parts, world_facts, formed_stable)
due_stable w (deliveries.offer o) = hlevel (stable_parts, world_facts, formed_stable, named_stable)
due_stable w (deliveries.wake d) = hlevel (stable_parts, world_facts, formed_stable, named_stable)
due_stable w (deliveries.notify n) = hlevel (stable_parts, world_facts, formed_stable, named_stable)
due_stable w (deliveries.deadline s) = stable_prop le_prop

timed_stable : (w : State) (e : ℕ × Delivery) → IsStable (IsTimedEntry w e)
timed_stable w (t, d) = by d
  where
    by : (d : Delivery) → IsStable (IsTimed w d)
    by (deliveries.wake d) = hlevel (stable_parts, world_facts, formed_stable, named_stable)
    by (deliveries.deadline s) = stable_prop le_prop
    by (deliveries.call c) = stable_prop never_prop
    by (deliveries.give g) = stable_prop never_prop
    by (deliveries.tick t) = stable_prop never_prop
    by (deliveries.bad r) = stable_prop never_prop
    by (deliveries.send s) = stable_prop never_prop
    by (deliveries.start s) = stable_prop never_prop
    by (deliveries.offer o) = stable_prop never_prop
    by (deliveries.notify n) = stable_prop never_prop

pub stable_world : (w : State) → IsStable (IsGoodWorld w)
stable_world w = hlevel (stable_parts, world_facts, value_prop, apart_prop, issuers_prop, slot_prop, safe_stable, writes_prop, named_stable, formed_stable, plain_stable, rule_prop, terms_prop, settling_stable, forest_prop, due_stable, timed_stable, paid_stable)
