-- Data of which the types give their part and the rest is shown is printable; what refusals show is.
use Rattle.std.proofs.Common.{◌<◌, ◌+◌, ℕ, List, [], ◌∷◌, Bool, true, false, map, if◌then◌else◌, arith}
use Rattle.std.specs.List.{AllByRecursion}
use Rattle.turn_rows.specs.amount_math.Content.{Content, entries}
use Rattle.turn_rows.specs.amount_math.ValueView.{ValueView}
use Rattle.turn_rows.specs.amount_math.declared.Kind.{Kind}
use Rattle.turn_rows.specs.amount_math.declared.Kind.TheVariants.{Nat, Set, Bag}
use Rattle.turn_records.specs.host_data.Values.{content_tree, counted_tree, key_tree, value_tree}
use Rattle.turn_records.proofs.host_data.Nodes.{both, weaker}
use Rattle.turn_records.specs.host_data.Nodes.{Both, EachField, EachItem, EachNode, Implies}
use Rattle.turn_records.proofs.Values.{value_form}
use Rattle.turn_records.specs.Names.{numbers_end}
use Rattle.turn_records.specs.Printable.{HasForm, IsPrintable, most_nested}
use Rattle.turn_records.specs.Values.{counted_element, key_element, printed_content}
use Rattle.turn_records.specs.host_data.Tree.{Tree, null, boolean, number, text, array, fields, object, function}
use Rattle.turn_records.specs.host_data.View.{fields_of, items_of}
use Rattle.turn_records.specs.host_data.declared.data.ObjKind.{ObjKind}
use Rattle.turn_records.specs.host_data.declared.data.ObjKind.TheVariants.{Brand, Issuer, Mint, Zmint}
use Rattle.turn_records.specs.promise_store.States.{SettlementView, broken, ok}
use Rattle.turn_rows.specs.Form.{HasElementForm, HasValueForm, objects_end}
use Rattle.turn_records.specs.Printed.{notice_tree}
use Rattle.turn_records.specs.Tellable.{ArePrintable, IsTellableValue}
use Rattle.turn_writer.specs.Printing.{CanPrintAll, CanPrintData, CanPrintNode, IsBrandBelow}
use Rattle.turn_writer.specs.Typed.{HasDataTypes, HasFieldTypes, HasNodeTypes, HasSettlementTypes, HaveDataTypes}
use Rattle.turn_rows.specs.Editions.{written}

-- ---- what the types give, and the rest

pub numbered : (kind : ObjKind) (n : ℕ) → n < objects_end → IsBrandBelow kind n → n < numbers_end kind
numbered (Brand kind) n h k = k
numbered Issuer n h k = k
numbered Mint n h k = k
numbered Zmint n h k = k
numbered _ n h k = h

node_form : Implies (Both HasNodeTypes CanPrintNode) HasForm
node_form n null h = tt
node_form n (boolean b) h = tt
node_form n (number z) h = h.0
node_form n (text s) h = h.0
node_form n (array ts) h = h.1
node_form n (fields fs) h = h.1
node_form n (object o) h = numbered o.kind o.number h.0 h.1
node_form n (function name) h = h.1

pub data_form : (t : Tree) → HasDataTypes t → CanPrintData t → IsPrintable t
data_form t h k = weaker (Both HasNodeTypes CanPrintNode) HasForm node_form 0 t (both HasNodeTypes CanPrintNode 0 t (h 0) k)

pub all_form : (ts : List Tree) → HaveDataTypes ts → CanPrintAll ts → ArePrintable ts
all_form [] h k = tt
all_form (t ∷ ts) h k = (data_form t h.0 k.0, all_form ts h.1 k.1)

-- ---- lists of data and of fields

pub items_typed : (ts : List Tree) → HaveDataTypes ts → (n : ℕ) → EachItem HasNodeTypes n (items_of ts)
items_typed [] h n = tt
items_typed (t ∷ ts) h n = (h.0 n, items_typed ts h.1 n)

pub fields_typed : (fs : List (List ℕ × Tree)) → AllByRecursion HasFieldTypes fs → (n : ℕ) → EachField HasNodeTypes n (fields_of fs)
fields_typed [] h n = tt
fields_typed (f ∷ fs) h n = (h.0 n, fields_typed fs h.1 n)

-- ---- what a function is notified of

chosen : (b : Bool) (t : Tree) → HasDataTypes t → HasDataTypes (if b then t else null)
chosen true t h n = h n
chosen false t h n = tt

pub notice_typed : (s : SettlementView) → HasSettlementTypes s → HasDataTypes (notice_tree s)
notice_typed (ok t) h n = (tt, (tt, (chosen _ t h (n + 1), tt)))
notice_typed (broken t) h n = (tt, (tt, (chosen _ t h (n + 1), tt)))

-- ---- values

keys_form : (n : ℕ) (es : List (List ℕ × ℕ)) → AllByRecursion HasElementForm (map key_element es) → EachItem HasForm n (items_of (map key_tree es))
keys_form n [] h = tt
keys_form n (e ∷ es) h = (h.0.text, keys_form n es h.1)

counts_form : (n : ℕ) → n < most_nested → (es : List (List ℕ × ℕ)) → AllByRecursion HasElementForm (map counted_element es) → EachItem HasForm n (items_of (map counted_tree es))
counts_form n low [] h = tt
counts_form n low (e ∷ es) h = ((low, (h.0.0.text, (omega (arith, h.0.2), tt))), counts_form n low es h.1)

content_form : (kind : Kind) (c : Content) → HasValueForm written (printed_content kind c) → EachNode HasForm 0 (content_tree kind c)
content_form Nat c h = omega (arith, h)
content_form Set c h = (omega arith, keys_form 1 (entries c) h.each)
content_form Bag c h = (omega arith, counts_form 1 (omega arith) (entries c) h.each)

pub value_printable : (w : ValueView) → IsTellableValue w → IsPrintable (value_tree w)
unfolding value_tree
value_printable w h = content_form w.kind w.content (value_form w h.value h.texts)
