-- The data of refusals, and what promises are settled with, can be printed.
use Rattle.std.proofs.Common.{◌≡◌, ◌<◌, ◌+◌, ℕ, List, [], ◌∷◌, Bool, true, false, map, nat_lt, if◌then◌else◌, refl, arith}
use Rattle.std.specs.Prelude.{codes}
use Rattle.std.proofs.lemmas.Bool.{ltb-true}
use Rattle.turn_rows.specs.amount_math.Content.{Content, entries}
use Rattle.turn_rows.specs.amount_math.declared.Kind.{Kind}
use Rattle.turn_rows.specs.amount_math.declared.Kind.TheVariants.{Nat, Set, Bag}
use Rattle.turn_records.specs.host_data.Values.{content_tree, counted_tree, key_tree, value_tree}
use Rattle.turn_records.proofs.host_data.Nodes.{both, shallow, weaker}
use Rattle.turn_records.specs.host_data.Nodes.{Both, EachField, EachItem, EachNode, Implies, IsShallow, NodeFact}
use Rattle.turn_records.specs.Printable.{HaveFieldNames, most_nested}
use Rattle.turn_records.specs.host_data.Tree.{Tree, null, boolean, number, text, array, fields, object, function, Items, no_items, item, Fields, no_fields, field, nesting}
use Rattle.turn_records.specs.host_data.View.{items_of}
use Rattle.turn_records.specs.promise_store.States.{SettlementView, broken, ok}
use Rattle.turn_records.specs.refusals.Codes.{Shown, refusal_tree, shown_by, shown_tree, shown_trees}
use Rattle.turn_records.specs.refusals.Codes as told
use Rattle.turn_records.specs.refusals.declared.codes.Refusal.{Refusal}
use Rattle.turn_records.specs.Endings.{settled_by}
use Rattle.turn_records.specs.Events.{Answer, given, refused, threw, spent}
use Rattle.turn_records.specs.Printed.{notice_tree, told_value}
use Rattle.turn_records.specs.Tellable.{IsFunctionText}
use Rattle.turn_writer.specs.Printing.{CanPrintAnswer, CanPrintData, CanPrintNode, CanPrintSettlement, IsBrandBelow}

-- ---- refusals

keys_print : (n : ℕ) (es : List (List ℕ × ℕ)) → EachItem CanPrintNode n (items_of (map key_tree es))
keys_print n [] = tt
keys_print n (e ∷ es) = (tt, keys_print n es)

counts_print : (n : ℕ) → n < most_nested → (es : List (List ℕ × ℕ)) → EachItem CanPrintNode n (items_of (map counted_tree es))
counts_print n low [] = tt
counts_print n low (e ∷ es) = ((low, (tt, (tt, tt))), counts_print n low es)

content_prints : (kind : Kind) (c : Content) → EachNode CanPrintNode 2 (content_tree kind c)
content_prints Nat c = tt
content_prints Set c = (omega arith, keys_print 3 (entries c))
content_prints Bag c = (omega arith, counts_print 3 (omega arith) (entries c))

shown_prints : (s : Shown) → EachNode CanPrintNode 2 (shown_tree s)
unfolding value_tree
shown_prints (told.number z) = tt
shown_prints (told.words t) = tt
shown_prints (told.worth w) = content_prints w.kind w.content

all_print : (ss : List Shown) → EachItem CanPrintNode 2 (items_of (shown_trees ss))
all_print [] = tt
all_print (s ∷ ss) = (shown_prints s, all_print ss)

pub refusal_prints : (r : Refusal) → CanPrintData (refusal_tree r)
unfolding refusal_tree
refusal_prints r = ((omega arith, (refl, (refl, tt))), (tt, ((omega arith, all_print (shown_by r)), tt)))

pub settled_prints : (a : Answer) → CanPrintAnswer a → CanPrintSettlement (settled_by a)
settled_prints (given t) h = h
settled_prints (refused r) h = refusal_prints r
settled_prints (threw t) h = h
settled_prints (spent meter) h = refusal_prints (told.spent meter)

-- ---- what a function is notified of

-- the part that is the same however deep a node lies
HasNames : NodeFact
HasNames n (fields fs) = HaveFieldNames fs
HasNames n (object o) = IsBrandBelow o.kind o.number
HasNames n (function name) = IsFunctionText name
HasNames n _ = Unit {0}

mutual
  unfolding HasNames

  named : (n : ℕ) (t : Tree) → EachNode CanPrintNode n t → EachNode HasNames (n + 1) t
  named n null h = tt
  named n (boolean b) h = tt
  named n (number z) h = tt
  named n (text s) h = tt
  named n (array ts) h = (tt, named_items (n + 1) ts h.1)
  named n (fields fs) h = (h.0.1, named_fields (n + 1) fs h.1)
  named n (object o) h = h
  named n (function name) h = h

  named_items : (n : ℕ) (ts : Items) → EachItem CanPrintNode n ts → EachItem HasNames (n + 1) ts
  named_items n no_items h = tt
  named_items n (item t ts) h = (named n t h.0, named_items n ts h.1)

  named_fields : (n : ℕ) (fs : Fields) → EachField CanPrintNode n fs → EachField HasNames (n + 1) fs
  named_fields n no_fields h = tt
  named_fields n (field name t fs) h = (named n t h.0, named_fields n fs h.1)

prints_node : Implies (Both HasNames (IsShallow most_nested)) CanPrintNode
unfolding HasNames
prints_node n null h = tt
prints_node n (boolean b) h = tt
prints_node n (number z) h = tt
prints_node n (text s) h = tt
prints_node n (array ts) h = h.1
prints_node n (fields fs) h = (h.1, h.0)
prints_node n (object o) h = h.0
prints_node n (function name) h = h.0

deeper : (t : Tree) → nesting t < most_nested → CanPrintData t → EachNode CanPrintNode 1 t
deeper t low h =
    weaker (Both HasNames (IsShallow most_nested)) CanPrintNode prints_node 1 t
    (both HasNames (IsShallow most_nested) 1 t (named 0 t h) (shallow most_nested 1 t (omega (arith, low))))

chosen : (b : Bool) (t : Tree) → nat_lt (nesting t) most_nested ≡ b → CanPrintData t → EachNode CanPrintNode 1 (if b then t else null)
chosen true t low h = deeper t (ltb-true (nesting t) most_nested low) h
chosen false t low h = tt

notice_prints : (b : Bool) (t : Tree) → CanPrintData t
    → CanPrintData (fields (field (codes "ok") (boolean b) (field (codes "value") (told_value t) no_fields)))
notice_prints b t h = ((omega arith, (refl, (refl, tt))), (tt, (chosen (nat_lt (nesting t) most_nested) t refl h, tt)))

pub told_prints : (s : SettlementView) → CanPrintSettlement s → CanPrintData (notice_tree s)
told_prints (ok t) h = notice_prints true t h
told_prints (broken t) h = notice_prints false t h
