-- What functions of values make refers to nothing that the values don't refer to.
use Rattle.std.proofs.Common.{ℕ, List, [], ◌∷◌, Bool, true, false, cond, Option, Some, None, subst, map}
use Rattle.std.specs.Str.{bytes_eq}
use Rattle.std.specs.Cmp.Lexicographic.{slice_cmp}
use Rattle.std.specs.Ordering.{nat_cmp}
use Rattle.std.specs.declared.cmp.Ordering.{Ordering}
use Rattle.std.specs.declared.cmp.Ordering.TheVariants.{Less, Equal, Greater}
use Rattle.host_data.specs.Tree.{Tree, text, array, fields, Items, no_items, item, Fields, no_fields, field, listed, paired}
use Rattle.host_data.specs.View.{items_of}
use Rattle.jessie_values.specs.jessie_grammar.Syntax.{Routine}
use Rattle.jessie_values.specs.Records.{placed, with_field, with_fields, record_of}
use Rattle.jessie_values.specs.BuiltIns.{changed}
use Rattle.jessie_semantics.specs.Actions.{Bindings}
use Rattle.jessie_semantics.specs.Rules.{find_routine}
use Rattle.jessie_semantics.specs.Keeping.{Known, to_function, Within, ItemsWithin, FieldsWithin, AllHave, FunctionsKnown}
use Rattle.jessie_semantics.proofs.Safe.{BoundHave, Closed}
use Rattle.jessie_semantics.proofs.Kept.{made_has, closed}
use Rattle.jessie_semantics.proofs.Writes.{AnyName}
use Rattle.jessie_semantics.proofs.Amounts.{amounts_within}

placed_within : (V : Fields → Type 0) (o : Ordering) (before here behind : Fields) → V before → V here → V behind → V (placed o before here behind)
placed_within V Less before here behind h i j = h
placed_within V Equal before here behind h i j = i
placed_within V Greater before here behind h i j = j

either_within : (V : Fields → Type 0) (b : Bool) (x y : Fields) → V x → V y → V (cond b x y)
either_within V true x y h i = h
either_within V false x y h i = i

module _ (K : Known) where
  with_field_within : (x : List ℕ) (v : Tree) (fs : Fields) → Within K v → FieldsWithin K fs → FieldsWithin K (with_field x v fs)
  with_field_within x v no_fields h i = (h, tt)
  with_field_within x v (field y w fs) h i = placed_within (FieldsWithin K) (slice_cmp nat_cmp x y) (field x v (field y w fs)) (field x v fs) (field y w (with_field x v fs)) (h, i) (h, i.1) (i.0, with_field_within x v fs h i.1)

  with_fields_within : (fs : Fields) (ms : Bindings) → FieldsWithin K fs → BoundHave (Within K) ms → FieldsWithin K (with_fields fs ms)
  with_fields_within fs [] h i = h
  with_fields_within fs (m ∷ ms) h i = with_fields_within (with_field m.0 m.1 fs) ms (with_field_within m.0 m.1 fs i.0 h) i.1

  changed_within : (x : List ℕ) (w : Tree) (fs : Fields) → FieldsWithin K fs → Within K w → FieldsWithin K (changed x w fs)
  changed_within x w no_fields h i = tt
  changed_within x w (field y v fs) h i = either_within (FieldsWithin K) (bytes_eq y x) (field y w fs) (field y v (changed x w fs)) (i, h.1) (h.0, changed_within x w fs h.1 i)

  words_within : (ms : Bindings) → ItemsWithin K (items_of (map (λ m. text m.0) ms))
  words_within [] = tt
  words_within (m ∷ ms) = (tt, words_within ms)

  listed_within : (ts : Items) → ItemsWithin K ts → AllHave (Within K) (listed ts)
  listed_within no_items h = tt
  listed_within (item t ts) h = (h.0, listed_within ts h.1)

  paired_within : (fs : Fields) → FieldsWithin K fs → BoundHave (Within K) (paired fs)
  paired_within no_fields h = tt
  paired_within (field x t fs) h = (h.0, paired_within fs h.1)

  items_within : (vs : List Tree) → AllHave (Within K) vs → ItemsWithin K (items_of vs)
  items_within [] h = tt
  items_within (v ∷ vs) h = (h.0, items_within vs h.1)

  abbrev FunctionKnown : Option Routine → Type 0
  FunctionKnown None = Unit {0}
  FunctionKnown (Some r) = K (to_function r.name)

  chosen_known : (b : Bool) (r : Routine) (o : Option Routine) → K (to_function r.name) → FunctionKnown o → FunctionKnown (cond b (Some r) o)
  chosen_known true r o h i = h
  chosen_known false r o h i = i

  found_known : (f : List ℕ) (rs : List Routine) → FunctionsKnown K rs → FunctionKnown (find_routine f rs)
  found_known f [] h = tt
  found_known f (r ∷ rs) h = chosen_known (bytes_eq r.name f) r _ h.0 (found_known f rs h.1)

  pub closed_within : (rs : List Routine) → FunctionsKnown K rs → Closed (Within K) AnyName rs
  closed_within rs h = closed (Within K) AnyName rs (record {
    nothing = tt;
    booleans = λ b. tt;
    numbers = λ z. tt;
    texts = λ t. tt;
    functions = λ f r e. subst (λ o. FunctionKnown o) e (found_known f rs h);
    bad_steps = λ r. (tt, ((tt, tt), tt));
    words = words_within;
    listed_have = listed_within;
    paired_have = paired_within;
    arrays = λ vs i. made_has (Within K) (array (items_of vs)) (λ e. items_within vs i);
    records = λ fs i n. made_has (Within K) (fields (record_of fs)) (λ e. with_fields_within no_fields fs tt i);
    changes = λ x w fs i j. made_has (Within K) (fields (changed x w fs)) (λ e. changed_within x w fs i j);
    amounts = amounts_within K;
  })
