-- What functions of values make has names of their form where the values and the names that the text writes have.
use Rattle.std.proofs.Common.{ℕ, List, [], ◌∷◌, Bool, true, false, cond, Option, Some, None, refl, subst, map}
use Rattle.std.specs.Str.{bytes_eq}
use Rattle.std.specs.Cmp.Lexicographic.{slice_cmp}
use Rattle.std.specs.Ordering.{nat_cmp}
use Rattle.std.specs.declared.cmp.Ordering.{Ordering}
use Rattle.std.specs.declared.cmp.Ordering.TheVariants.{Less, Equal, Greater}
use Rattle.host_data.specs.Tree.{Tree, text, array, fields, Items, no_items, item, Fields, no_fields, field, listed, paired}
use Rattle.host_data.specs.View.{items_of}
use Rattle.jessie_values.specs.jessie_grammar.Syntax.{Routine}
use Rattle.jessie_values.specs.Records.{placed, with_field, with_fields, record_of}
use Rattle.jessie_values.specs.BuiltIns.{changed}
use Rattle.jessie_semantics.specs.Actions.{Bindings}
use Rattle.jessie_semantics.specs.Rules.{find_routine}
use Rattle.jessie_semantics.specs.Keeping.{AllHave}
use Rattle.jessie_semantics.specs.Naming.{FieldNamesAre, HasFieldNames, IsFieldName, ItemNamesAre, RoutinesNamed}
use Rattle.jessie_semantics.proofs.Safe.{BoundHave, Closed, NamedBy}
use Rattle.jessie_semantics.proofs.Kept.{made_has, closed}
use Rattle.jessie_semantics.proofs.Amounts.{amounts_named}

abbrev Named : Fields → Type 0
Named fs = FieldNamesAre IsFieldName fs

placed_named : (o : Ordering) (before here behind : Fields) → Named before → Named here → Named behind → Named (placed o before here behind)
placed_named Less before here behind h i j = h
placed_named Equal before here behind h i j = i
placed_named Greater before here behind h i j = j

either_named : (b : Bool) (x y : Fields) → Named x → Named y → Named (cond b x y)
either_named true x y h i = h
either_named false x y h i = i

with_field_named : (x : List ℕ) (v : Tree) (fs : Fields) → IsFieldName x → HasFieldNames v → Named fs → Named (with_field x v fs)
with_field_named x v no_fields e h i = (e, h, tt)
with_field_named x v (field y w fs) e h i = placed_named (slice_cmp nat_cmp x y) (field x v (field y w fs)) (field x v fs) (field y w (with_field x v fs)) (e, h, i) (e, h, i.2) (i.0, i.1, with_field_named x v fs e h i.2)

with_fields_named : (fs : Fields) (ms : Bindings) → Named fs → BoundHave HasFieldNames ms → NamedBy IsFieldName ms → Named (with_fields fs ms)
with_fields_named fs [] h i n = h
with_fields_named fs (m ∷ ms) h i n = with_fields_named (with_field m.0 m.1 fs) ms (with_field_named m.0 m.1 fs n.0 i.0 h) i.1 n.1

changed_named : (x : List ℕ) (w : Tree) (fs : Fields) → Named fs → HasFieldNames w → Named (changed x w fs)
changed_named x w no_fields h i = tt
changed_named x w (field y v fs) h i = either_named (bytes_eq y x) (field y w fs) (field y v (changed x w fs)) (h.0, i, h.2) (h.0, h.1, changed_named x w fs h.2 i)

words_named : (ms : Bindings) → ItemNamesAre IsFieldName (items_of (map (λ m. text m.0) ms))
words_named [] = tt
words_named (m ∷ ms) = (tt, words_named ms)

listed_named : (ts : Items) → ItemNamesAre IsFieldName ts → AllHave HasFieldNames (listed ts)
listed_named no_items h = tt
listed_named (item t ts) h = (h.0, listed_named ts h.1)

paired_named : (fs : Fields) → Named fs → BoundHave HasFieldNames (paired fs)
paired_named no_fields h = tt
paired_named (field x t fs) h = (h.1, paired_named fs h.2)

items_named : (vs : List Tree) → AllHave HasFieldNames vs → ItemNamesAre IsFieldName (items_of vs)
items_named [] h = tt
items_named (v ∷ vs) h = (h.0, items_named vs h.1)

abbrev FunctionNamed : Option Routine → Type 0
FunctionNamed None = Unit {0}
FunctionNamed (Some r) = IsFieldName r.name

chosen_named : (b : Bool) (r : Routine) (o : Option Routine) → IsFieldName r.name → FunctionNamed o → FunctionNamed (cond b (Some r) o)
chosen_named true r o h i = h
chosen_named false r o h i = i

found_named : (f : List ℕ) (rs : List Routine) → RoutinesNamed IsFieldName rs → FunctionNamed (find_routine f rs)
found_named f [] h = tt
found_named f (r ∷ rs) h = chosen_named (bytes_eq r.name f) r _ h.0 (found_named f rs h.1)

pub closed_named : (rs : List Routine) → RoutinesNamed IsFieldName rs → Closed HasFieldNames IsFieldName rs
closed_named rs h = closed HasFieldNames IsFieldName rs (record {
  nothing = tt;
  booleans = λ b. tt;
  numbers = λ z. tt;
  texts = λ t. tt;
  functions = λ f r e. subst (λ o. FunctionNamed o) e (found_named f rs h);
  bad_steps = λ r. (refl, tt, (refl, (tt, tt), tt));
  words = words_named;
  listed_have = listed_named;
  paired_have = paired_named;
  arrays = λ vs i. made_has HasFieldNames (array (items_of vs)) (λ e. items_named vs i);
  records = λ fs i n. made_has HasFieldNames (fields (record_of fs)) (λ e. with_fields_named no_fields fs tt i n);
  changes = λ x w fs i j. made_has HasFieldNames (fields (changed x w fs)) (λ e. changed_named x w fs i j);
  amounts = amounts_named;
})
