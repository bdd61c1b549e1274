-- What functions of values make of data in form is in form.
use Rattle.std.proofs.Common.{◌≡◌, ℕ, ◌+◌, ◌≤◌, max, List, [], ◌∷◌, Bool, true, false, cond, refl, ap, ◌∙◌, map, arith}
use Rattle.std.specs.Prelude.{nat_le}
use Rattle.std.specs.Str.{bytes_eq}
use Rattle.std.specs.Cmp.Lexicographic.{slice_cmp}
use Rattle.std.specs.Ordering.{nat_cmp, ordering_reverse}
use Rattle.std.specs.declared.cmp.Ordering.{Ordering}
use Rattle.std.specs.declared.cmp.Ordering.TheVariants.{Less, Equal, Greater}
use Rattle.std.proofs.lemmas.Cmp.{nat_list_cmp_total}
use Rattle.host_data.specs.Tree.{Tree, text, array, fields, Items, no_items, item, Fields, no_fields, field, listed, paired, nesting, items_nesting, fields_nesting, Ordered, OrderedItems, OrderedFields, Before}
use Rattle.host_data.specs.View.{items_of}
use Rattle.jessie_values.specs.jessie_grammar.Syntax.{Routine}
use Rattle.jessie_values.specs.Records.{deepest, placed, with_field, with_fields, record_of}
use Rattle.jessie_values.specs.BuiltIns.{changed}
use Rattle.jessie_semantics.specs.Actions.{Bindings}
use Rattle.jessie_semantics.specs.Keeping.{AllHave}
use Rattle.jessie_semantics.specs.Form.{InForm}
use Rattle.jessie_semantics.proofs.Safe.{BoundHave, Closed}
use Rattle.jessie_semantics.proofs.Kept.{made_has, closed}
use Rattle.jessie_semantics.proofs.Writes.{AnyName}
use Rattle.jessie_semantics.proofs.Amounts.{amounts_in_form}

-- a field before these stays so where one is added that it stands before
stays_before : (y x : List ℕ) (v : Tree) (o : Ordering) (z : List ℕ) (w : Tree) (fs gs : Fields) → slice_cmp nat_cmp y x ≡ Less → slice_cmp nat_cmp y z ≡ Less
    → Before y (placed o (field x v (field z w fs)) (field x v fs) (field z w gs))
stays_before y x v Less z w fs gs h i = h
stays_before y x v Equal z w fs gs h i = h
stays_before y x v Greater z w fs gs h i = i

before_more : (y x : List ℕ) (v : Tree) (fs : Fields) → slice_cmp nat_cmp y x ≡ Less → Before y fs → Before y (with_field x v fs)
before_more y x v no_fields h b = h
before_more y x v (field z w fs) h b = stays_before y x v (slice_cmp nat_cmp x z) z w fs (with_field x v fs) h b

before_same : (x y : List ℕ) (fs : Fields) → slice_cmp nat_cmp x y ≡ Equal → Before y fs → Before x fs
before_same x y no_fields h b = tt
before_same x y (field z w fs) h b = nat_list_cmp_total.congr x y z h ∙ b

placed_ordered : (x : List ℕ) (v : Tree) (o : Ordering) (y : List ℕ) (w : Tree) (fs : Fields) → slice_cmp nat_cmp x y ≡ o → Ordered v → OrderedFields (field y w fs) → OrderedFields (with_field x v fs)
    → OrderedFields (placed o (field x v (field y w fs)) (field x v fs) (field y w (with_field x v fs)))
placed_ordered x v Less y w fs e h i j = (h, e, i)
placed_ordered x v Equal y w fs e h i j = (h, before_same x y fs e i.1, i.2)
placed_ordered x v Greater y w fs e h i j =
    let less : slice_cmp nat_cmp y x ≡ Less = nat_list_cmp_total.antisymm y x ∙ ap ordering_reverse e in
    (i.0, before_more y x v fs less i.1, j)

with_field_ordered : (x : List ℕ) (v : Tree) (fs : Fields) → Ordered v → OrderedFields fs → OrderedFields (with_field x v fs)
with_field_ordered x v no_fields h i = (h, tt, tt)
with_field_ordered x v (field y w fs) h i = placed_ordered x v (slice_cmp nat_cmp x y) y w fs refl h i (with_field_ordered x v fs h i.2)

with_fields_ordered : (fs : Fields) (ms : Bindings) → OrderedFields fs → BoundHave InForm ms → OrderedFields (with_fields fs ms)
with_fields_ordered fs [] h i = h
with_fields_ordered fs (m ∷ ms) h i = with_fields_ordered (with_field m.0 m.1 fs) ms (with_field_ordered m.0 m.1 fs i.0.0 h) i.1

-- a field that is changed keeps its place

before_either : (y : List ℕ) (b : Bool) (z : List ℕ) (v w : Tree) (fs gs : Fields) → slice_cmp nat_cmp y z ≡ Less → Before y (cond b (field z w fs) (field z v gs))
before_either y true z v w fs gs h = h
before_either y false z v w fs gs h = h

before_changed : (y x : List ℕ) (w : Tree) (fs : Fields) → Before y fs → Before y (changed x w fs)
before_changed y x w no_fields h = tt
before_changed y x w (field z v fs) h = before_either y (bytes_eq z x) z v w fs (changed x w fs) h

ordered_either : (b : Bool) (fs gs : Fields) → OrderedFields fs → OrderedFields gs → OrderedFields (cond b fs gs)
ordered_either true fs gs h i = h
ordered_either false fs gs h i = i

changed_ordered : (x : List ℕ) (w : Tree) (fs : Fields) → OrderedFields fs → Ordered w → OrderedFields (changed x w fs)
changed_ordered x w no_fields h i = tt
changed_ordered x w (field y v fs) h i = ordered_either (bytes_eq y x) (field y w fs) (field y v (changed x w fs)) (i, h.1, h.2) (h.0, before_changed y x w fs h.1, changed_ordered x w fs h.2 i)

shallow : (n : ℕ) → nat_le n deepest ≡ true → n ≤ 32
shallow n h = grind arith

most_left : (a b n : ℕ) → max a b ≤ n → a ≤ n
most_left a b n h = grind arith

most_right : (a b n : ℕ) → max a b ≤ n → b ≤ n
most_right a b n h = grind arith

most_both : (a b n : ℕ) → a ≤ n → b ≤ n → max a b ≤ n
most_both a b n h i = grind arith

one_less : (n : ℕ) → 1 + n ≤ 32 → n ≤ 32
one_less n h = omega arith

items_ordered : (vs : List Tree) → AllHave InForm vs → OrderedItems (items_of vs)
items_ordered [] h = tt
items_ordered (v ∷ vs) h = (h.0.0, items_ordered vs h.1)

listed_form : (ts : Items) → OrderedItems ts → items_nesting ts ≤ 32 → AllHave InForm (listed ts)
listed_form no_items h i = tt
listed_form (item t ts) h i = ((h.0, most_left (nesting t) (items_nesting ts) 32 i), listed_form ts h.1 (most_right (nesting t) (items_nesting ts) 32 i))

paired_form : (fs : Fields) → OrderedFields fs → fields_nesting fs ≤ 32 → BoundHave InForm (paired fs)
paired_form no_fields h i = tt
paired_form (field x t fs) h i = ((h.0, most_left (nesting t) (fields_nesting fs) 32 i), paired_form fs h.2 (most_right (nesting t) (fields_nesting fs) 32 i))

words_ordered : (ms : Bindings) → OrderedItems (items_of (map (λ m. text m.0) ms))
words_ordered [] = tt
words_ordered (m ∷ ms) = (tt, words_ordered ms)

words_shallow : (ms : Bindings) → items_nesting (items_of (map (λ m. text m.0) ms)) ≤ 0
words_shallow [] = omega arith
words_shallow (m ∷ ms) = most_both 0 (items_nesting (items_of (map (λ m. text m.0) ms))) 0 (omega arith) (words_shallow ms)

words_form : (ms : Bindings) → InForm (array (items_of (map (λ m. text m.0) ms)))
words_form ms = (words_ordered ms, let h = words_shallow ms in omega (arith, h))

pub closed_form : (rs : List Routine) → Closed InForm AnyName rs
closed_form rs = closed InForm AnyName rs (record {
  nothing = (tt, omega arith);
  booleans = λ b. (tt, omega arith);
  numbers = λ z. (tt, omega arith);
  texts = λ t. (tt, omega arith);
  functions = λ f r e. (tt, omega arith);
  bad_steps = λ r. ((tt, refl, ((tt, tt), tt, tt)), omega arith);
  words = words_form;
  listed_have = λ ts h. listed_form ts h.0 (one_less _ h.1);
  paired_have = λ fs h. paired_form fs h.0 (one_less _ h.1);
  arrays = λ vs h. made_has InForm (array (items_of vs)) (λ e. (items_ordered vs h, shallow _ e));
  records = λ fs h n. made_has InForm (fields (record_of fs)) (λ e. (with_fields_ordered no_fields fs tt h, shallow _ e));
  changes = λ x w fs h i. made_has InForm (fields (changed x w fs)) (λ e. (changed_ordered x w fs h.0 i.0, shallow _ e));
  amounts = amounts_in_form;
})
