-- The data of a constant that a text writes, as a tree.
use Rattle.std.proofs.Common.{◌≡◌, ℕ, ◌+◌, ◌<◌, true, List, [], ◌∷◌, refl, ap, ◌∙◌}
use Rattle.std.specs.Str.{IsUtf8}
use Rattle.std.specs.Cmp.Lexicographic.{slice_cmp}
use Rattle.std.specs.Ordering.{nat_cmp, ordering_reverse}
use Rattle.std.proofs.lemmas.Cmp.{nat_list_cmp_total}
use Rattle.std.specs.declared.cmp.Ordering.{Ordering}
use Rattle.std.specs.declared.cmp.Ordering.TheVariants.{Less, Equal, Greater}
use Rattle.jessie_reader.specs.host_text.Words.{is_field_name}
use Rattle.rules.proofs.host_data.Nodes.{ordered, weaker}
use Rattle.rules.specs.host_data.Nodes.{EachNode, EachItem, EachField, NodeFact, ObjectIs, FunctionIs, IsShallow}
use Rattle.rules.specs.turn_records.Printable.{HaveFieldNames, IsNumber}
use Rattle.rules.specs.jessie_grammar.Syntax.{Fixed, plain, row, fixed_record, Fixeds, no_fixeds, fixed, NamedFixeds, no_named_fixeds, named_fixed}
use Rattle.rules.specs.jessie_grammar.declared.syntax.Literal.{Literal}
use Rattle.rules.specs.jessie_grammar.declared.syntax.Literal.TheVariants as l
use Rattle.rules.specs.host_data.Tree.{Tree, null, boolean, number, text, array, fields, object, function, Fields, no_fields, field, Before, Ordered, OrderedItems, OrderedFields}
use Rattle.rules.specs.jessie_values.Literals.{fixed_items, fixed_pairs, fixed_tree, literal_tree}
use Rattle.rules.specs.jessie_values.Records.{placed, record_of, with_field, with_fields}
use Rattle.rules.specs.world_state.Known.{HasNames, HasWidth, IsPlain}

-- ---- a constant as a text writes it, d brackets deep

abbrev pub IsLiteral : Literal → Type 0
IsLiteral (l.Number z) = IsNumber z
IsLiteral (l.Text s) = IsUtf8 s
IsLiteral (l.Bool b) = Unit {0}
IsLiteral l.Null = Unit {0}

abbrev mutual
  pub IsFixed : ℕ → Fixed → Type 0
  IsFixed d (plain c) = IsLiteral c
  IsFixed d (row cs) = (d < 32) × AreFixed (d + 1) cs
  IsFixed d (fixed_record ms) = (d < 32) × AreNamed (d + 1) ms

  pub AreFixed : ℕ → Fixeds → Type 0
  AreFixed d no_fixeds = Unit {0}
  AreFixed d (fixed c cs) = IsFixed d c × AreFixed d cs

  pub AreNamed : ℕ → NamedFixeds → Type 0
  AreNamed d no_named_fixeds = Unit {0}
  AreNamed d (named_fixed x c ms) = (is_field_name x ≡ true) × IsFixed d c × AreNamed d ms

-- ---- its data

-- a node of data that a text writes
abbrev IsWritten : NodeFact
IsWritten n null = Unit {0}
IsWritten n (boolean b) = Unit {0}
IsWritten n (number z) = IsNumber z
IsWritten n (text s) = IsUtf8 s
IsWritten n (array ts) = n < 32
IsWritten n (fields fs) = (n < 32) × HaveFieldNames fs
IsWritten n (object o) = ⊥
IsWritten n (function name) = ⊥

-- pairs of a name and data
abbrev ArePairs : ℕ → List (List ℕ × Tree) → Type 0
ArePairs d [] = Unit {0}
ArePairs d (m ∷ ms) = (is_field_name m.0 ≡ true) × EachNode IsWritten d m.1 × ArePairs d ms

-- fields of a record
abbrev AreFields : ℕ → Fields → Type 0
AreFields d fs = EachField IsWritten d fs × HaveFieldNames fs

placed_fields : (d : ℕ) (o : Ordering) (x : List ℕ) (v : Tree) (y : List ℕ) (w : Tree) (fs gs : Fields) → is_field_name x ≡ true → EachNode IsWritten d v → AreFields d (field y w fs) → AreFields d gs
    → AreFields d (placed o (field x v (field y w fs)) (field x v fs) (field y w gs))
placed_fields d Less x v y w fs gs name is h i = ((is, h.0), (name, h.1))
placed_fields d Equal x v y w fs gs name is h i = ((is, h.0.1), (name, h.1.1))
placed_fields d Greater x v y w fs gs name is h i = ((h.0.0, i.0), (h.1.0, i.1))

with_field_fields : (d : ℕ) (x : List ℕ) (v : Tree) (fs : Fields) → is_field_name x ≡ true → EachNode IsWritten d v → AreFields d fs → AreFields d (with_field x v fs)
with_field_fields d x v no_fields name is h = ((is, tt), (name, tt))
with_field_fields d x v (field y w fs) name is h = placed_fields d (slice_cmp nat_cmp x y) x v y w fs (with_field x v fs) name is h (with_field_fields d x v fs name is (h.0.1, h.1.1))

with_fields_fields : (d : ℕ) (fs : Fields) (ms : List (List ℕ × Tree)) → AreFields d fs → ArePairs d ms → AreFields d (with_fields fs ms)
with_fields_fields d fs [] h i = h
with_fields_fields d fs (m ∷ ms) h i = with_fields_fields d (with_field m.0 m.1 fs) ms (with_field_fields d m.0 m.1 fs i.0 i.1 h) i.2

literal_written : (d : ℕ) (c : Literal) → IsLiteral c → EachNode IsWritten d (literal_tree c)
literal_written d (l.Number z) h = h
literal_written d (l.Text s) h = h
literal_written d (l.Bool b) h = tt
literal_written d l.Null h = tt

mutual
  fixed_written : (d : ℕ) (c : Fixed) → IsFixed d c → EachNode IsWritten d (fixed_tree c)
  fixed_written d (plain c) h = literal_written d c h
  fixed_written d (row cs) h = (h.0, items_written (d + 1) cs h.1)
  fixed_written d (fixed_record ms) h =
      let made : AreFields (d + 1) (record_of (fixed_pairs ms)) = with_fields_fields (d + 1) no_fields (fixed_pairs ms) (tt, tt) (pairs_written (d + 1) ms h.1) in
      ((h.0, made.1), made.0)

  items_written : (d : ℕ) (cs : Fixeds) → AreFixed d cs → EachItem IsWritten d (fixed_items cs)
  items_written d no_fixeds h = tt
  items_written d (fixed c cs) h = (fixed_written d c h.0, items_written d cs h.1)

  pairs_written : (d : ℕ) (ms : NamedFixeds) → AreNamed d ms → ArePairs d (fixed_pairs ms)
  pairs_written d no_named_fixeds h = tt
  pairs_written d (named_fixed x c ms) h = (h.0, fixed_written d c h.1, pairs_written d ms h.2)

-- ---- records in order

abbrev AreOrdered : List (List ℕ × Tree) → Type 0
AreOrdered [] = Unit {0}
AreOrdered (m ∷ ms) = Ordered m.1 × AreOrdered ms

-- a field before these stays so where one is added that it stands before
stays_before : (y x : List ℕ) (v : Tree) (o : Ordering) (z : List ℕ) (w : Tree) (fs gs : Fields) → slice_cmp nat_cmp y x ≡ Less → slice_cmp nat_cmp y z ≡ Less
    → Before y (placed o (field x v (field z w fs)) (field x v fs) (field z w gs))
stays_before y x v Less z w fs gs h i = h
stays_before y x v Equal z w fs gs h i = h
stays_before y x v Greater z w fs gs h i = i

before_more : (y x : List ℕ) (v : Tree) (fs : Fields) → slice_cmp nat_cmp y x ≡ Less → Before y fs → Before y (with_field x v fs)
before_more y x v no_fields h b = h
before_more y x v (field z w fs) h b = stays_before y x v (slice_cmp nat_cmp x z) z w fs (with_field x v fs) h b

before_same : (x y : List ℕ) (fs : Fields) → slice_cmp nat_cmp x y ≡ Equal → Before y fs → Before x fs
before_same x y no_fields h b = tt
before_same x y (field z w fs) h b = nat_list_cmp_total.congr x y z h ∙ b

placed_ordered : (x : List ℕ) (v : Tree) (o : Ordering) (y : List ℕ) (w : Tree) (fs : Fields) → slice_cmp nat_cmp x y ≡ o → Ordered v → OrderedFields (field y w fs) → OrderedFields (with_field x v fs)
    → OrderedFields (placed o (field x v (field y w fs)) (field x v fs) (field y w (with_field x v fs)))
placed_ordered x v Less y w fs e h i j = (h, e, i)
placed_ordered x v Equal y w fs e h i j = (h, before_same x y fs e i.1, i.2)
placed_ordered x v Greater y w fs e h i j =
    let less : slice_cmp nat_cmp y x ≡ Less = nat_list_cmp_total.antisymm y x ∙ ap ordering_reverse e in
    (i.0, before_more y x v fs less i.1, j)

with_field_ordered : (x : List ℕ) (v : Tree) (fs : Fields) → Ordered v → OrderedFields fs → OrderedFields (with_field x v fs)
with_field_ordered x v no_fields h i = (h, tt, tt)
with_field_ordered x v (field y w fs) h i = placed_ordered x v (slice_cmp nat_cmp x y) y w fs refl h i (with_field_ordered x v fs h i.2)

with_fields_ordered : (fs : Fields) (ms : List (List ℕ × Tree)) → OrderedFields fs → AreOrdered ms → OrderedFields (with_fields fs ms)
with_fields_ordered fs [] h i = h
with_fields_ordered fs (m ∷ ms) h i = with_fields_ordered (with_field m.0 m.1 fs) ms (with_field_ordered m.0 m.1 fs i.0 h) i.1

literal_ordered : (c : Literal) → Ordered (literal_tree c)
literal_ordered (l.Number z) = tt
literal_ordered (l.Text s) = tt
literal_ordered (l.Bool b) = tt
literal_ordered l.Null = tt

mutual
  fixed_ordered : (c : Fixed) → Ordered (fixed_tree c)
  fixed_ordered (plain c) = literal_ordered c
  fixed_ordered (row cs) = items_ordered cs
  fixed_ordered (fixed_record ms) = with_fields_ordered no_fields (fixed_pairs ms) tt (pairs_ordered ms)

  items_ordered : (cs : Fixeds) → OrderedItems (fixed_items cs)
  items_ordered no_fixeds = tt
  items_ordered (fixed c cs) = (fixed_ordered c, items_ordered cs)

  pairs_ordered : (ms : NamedFixeds) → AreOrdered (fixed_pairs ms)
  pairs_ordered no_named_fixeds = tt
  pairs_ordered (named_fixed x c ms) = (fixed_ordered c, pairs_ordered ms)

-- ---- the facts of each node

no_object : (n : ℕ) (t : Tree) → IsWritten n t → ObjectIs (λ o. ⊥) n t
no_object n (object o) h = h
no_object n null h = tt
no_object n (boolean b) h = tt
no_object n (number z) h = tt
no_object n (text s) h = tt
no_object n (array ts) h = tt
no_object n (fields fs) h = tt
no_object n (function name) h = tt

no_function : (n : ℕ) (t : Tree) → IsWritten n t → FunctionIs (λ f. ⊥) n t
no_function n (function name) h = h
no_function n null h = tt
no_function n (boolean b) h = tt
no_function n (number z) h = tt
no_function n (text s) h = tt
no_function n (array ts) h = tt
no_function n (fields fs) h = tt
no_function n (object o) h = tt

has_names : (n : ℕ) (t : Tree) → IsWritten n t → HasNames n t
has_names n (fields fs) h = h.1
has_names n (function name) h = absurd h
has_names n null h = tt
has_names n (boolean b) h = tt
has_names n (number z) h = tt
has_names n (text s) h = tt
has_names n (array ts) h = tt
has_names n (object o) h = tt

is_shallow : (n : ℕ) (t : Tree) → IsWritten n t → IsShallow 32 n t
is_shallow n (array ts) h = h
is_shallow n (fields fs) h = h.0
is_shallow n null h = tt
is_shallow n (boolean b) h = tt
is_shallow n (number z) h = tt
is_shallow n (text s) h = tt
is_shallow n (object o) h = tt
is_shallow n (function name) h = tt

has_width : (n : ℕ) (t : Tree) → IsWritten n t → HasWidth n t
has_width n (number z) h = h
has_width n (text s) h = h
has_width n (object o) h = absurd h
has_width n null h = tt
has_width n (boolean b) h = tt
has_width n (array ts) h = tt
has_width n (fields fs) h = tt
has_width n (function name) h = tt

pub fixed_plain : (c : Fixed) → IsFixed 0 c → IsPlain (fixed_tree c)
fixed_plain c h =
    let written = fixed_written 0 c h in
    record {
      objects = weaker IsWritten (ObjectIs (λ o. ⊥)) no_object 0 (fixed_tree c) written;
      functions = weaker IsWritten (FunctionIs (λ f. ⊥)) no_function 0 (fixed_tree c) written;
      named = weaker IsWritten HasNames has_names 0 (fixed_tree c) written;
      ordered = ordered 0 (fixed_tree c) (fixed_ordered c);
      shallow = weaker IsWritten (IsShallow 32) is_shallow 0 (fixed_tree c) written;
      sized = weaker IsWritten HasWidth has_width 0 (fixed_tree c) written;
    }
