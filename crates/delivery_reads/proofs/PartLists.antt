-- Lists of parts that are resolved one after another, behind what is resolved already.
use Rattle.std.proofs.Common.{◌≡◌, ℕ, suc, ◌+◌, ◌<◌, ◌≤◌, List, [], ◌∷◌, ◌++◌, length, drop, get_or, Result, Ok, Err, refl, sym, ap, subst, ◌∙◌, add-one, drop-cons, Vec, Global, rules}
use Rattle.std.proofs.lemmas.List.{drop_all, map-append}
use Rattle.std.specs.Result.{IsErrAnd}
use Rattle.host_data.specs.Tree.{Tree, array, fields, Items, item, no_items, Fields, field, no_fields}
use Rattle.host_data.specs.View as views
use Rattle.host_data.specs.declared.data.Data.{Data}
use Rattle.refusals.specs.Outcomes.{Fails, Gives, bind}
use Rattle.refusals.specs.declared.codes.Refusal.{Refusal}
use Rattle.refusals.specs.declared.stops.Stop.{Stop}
use Rattle.refusals.specs.declared.stops.Stop.TheVariants.{NoMemory, Refused}
use Rattle.delivery_turns.specs.turn_records.Views.{field_parts_of, part_view, part_views, parts_of}
use Rattle.delivery_turns.specs.turn_records.declared.messages.Part.{Part}
use Rattle.delivery_turns.specs.turn_records.declared.messages.Part as P
use Rattle.delivery_turns.specs.turn_records.Messages as told
use Rattle.delivery_turns.specs.world_state.Worlds.{State}
use Rattle.delivery_turns.specs.Messages.{resolved, resolved_all, resolved_fields}
use Rattle.delivery_reads.specs.Reads.{named_views}

-- the items behind those that are there
abbrev before : List Tree → Items → Items
before [] us = us
before (t ∷ ts) us = item t (before ts us)

abbrev pub onto_items : List Tree → Result Items Refusal → Result Items Refusal
onto_items ts (Ok us) = Ok (before ts us)
onto_items ts (Err e) = Err e

abbrev before_fields : List (List ℕ × Tree) → Fields → Fields
before_fields [] gs = gs
before_fields (m ∷ ms) gs = field m.0 m.1 (before_fields ms gs)

abbrev pub onto_fields : List (List ℕ × Tree) → Result Fields Refusal → Result Fields Refusal
onto_fields ms (Ok gs) = Ok (before_fields ms gs)
onto_fields ms (Err e) = Err e

-- ---- nothing there yet

pub onto_items-none : (r : Result Items Refusal) → onto_items [] r ≡ r
onto_items-none (Ok us) = refl
onto_items-none (Err e) = refl

pub onto_fields-none : (r : Result Fields Refusal) → onto_fields [] r ≡ r
onto_fields-none (Ok us) = refl
onto_fields-none (Err e) = refl

-- ---- one more

before-last : (ts : List Tree) (u : Tree) (us : Items) → before ts (item u us) ≡ before (ts ++ u ∷ []) us
before-last [] u us = refl
before-last (t ∷ ts) u us = ap (item t) (before-last ts u us)

before_fields-last : (ms : List (List ℕ × Tree)) (name : List ℕ) (u : Tree) (gs : Fields) → before_fields ms (field name u gs) ≡ before_fields (ms ++ (name, u) ∷ []) gs
before_fields-last [] name u gs = refl
before_fields-last (m ∷ ms) name u gs = ap (field m.0 m.1) (before_fields-last ms name u gs)

module _ (w : State) (party : List ℕ) where
  onto_items-more : (ts : List Tree) (t : told.Part) (ps : told.Parts) (u : Tree) → resolved w party t ≡ Ok u
      → onto_items ts (resolved_all w party (told.part t ps)) ≡ onto_items (ts ++ u ∷ []) (resolved_all w party ps)
  unfolding bind
  onto_items-more ts t ps u h = rw h (by (resolved_all w party ps))
    where
      by : (r : Result Items Refusal) → onto_items ts (bind r (λ us. Ok (item u us))) ≡ onto_items (ts ++ u ∷ []) r
      by (Ok us) = ap Ok (before-last ts u us)
      by (Err e) = refl

  onto_items-refused : (ts : List Tree) (t : told.Part) (ps : told.Parts) (e : Refusal) → resolved w party t ≡ Err e
      → onto_items ts (resolved_all w party (told.part t ps)) ≡ Err e
  unfolding bind
  onto_items-refused ts t ps e h = rw h refl

  onto_fields-more : (ms : List (List ℕ × Tree)) (name : List ℕ) (t : told.Part) (ps : told.FieldParts) (u : Tree) → resolved w party t ≡ Ok u
      → onto_fields ms (resolved_fields w party (told.field name t ps)) ≡ onto_fields (ms ++ (name, u) ∷ []) (resolved_fields w party ps)
  unfolding bind
  onto_fields-more ms name t ps u h = rw h (by (resolved_fields w party ps))
    where
      by : (r : Result Fields Refusal) → onto_fields ms (bind r (λ gs. Ok (field name u gs))) ≡ onto_fields (ms ++ (name, u) ∷ []) r
      by (Ok gs) = ap Ok (before_fields-last ms name u gs)
      by (Err e) = refl

  onto_fields-refused : (ms : List (List ℕ × Tree)) (name : List ℕ) (t : told.Part) (ps : told.FieldParts) (e : Refusal) → resolved w party t ≡ Err e
      → onto_fields ms (resolved_fields w party (told.field name t ps)) ≡ Err e
  unfolding bind
  onto_fields-refused ms name t ps e h = rw h refl

-- ---- nothing more

before-no_items : (ts : List Tree) → before ts no_items ≡ views.items_of ts
before-no_items [] = refl
before-no_items (t ∷ ts) = ap (item t) (before-no_items ts)

before_fields-no_fields : (ms : List (List ℕ × Tree)) → before_fields ms no_fields ≡ views.fields_of ms
before_fields-no_fields [] = refl
before_fields-no_fields (m ∷ ms) = ap (field m.0 m.1) (before_fields-no_fields ms)

onto_items-all : (ts : List Tree) → onto_items ts (Ok no_items) ≡ Ok (views.items_of ts)
onto_items-all ts = ap Ok (before-no_items ts)

onto_fields-all : (ms : List (List ℕ × Tree)) → onto_fields ms (Ok no_fields) ≡ Ok (views.fields_of ms)
onto_fields-all ms = ap Ok (before_fields-no_fields ms)

-- ---- the same, of the lists that a loop goes over

next_part : {X : Type 0} (xs : List X) (i : ℕ) (x : X) → i < length xs → x ≡ get_or xs i x → drop i xs ≡ x ∷ drop (i + 1) xs
next_part xs i x h e = rw (add-one) (drop-cons xs i x h ∙ ap (λ y. y ∷ drop (suc i) xs) (sym e))

module _ (w : State) (party : List ℕ) (all : Result Items Refusal) (found : List Data) (ps : List Part) (i : ℕ) where
  abbrev ItemsSoFar : Type 0
  ItemsSoFar = all ≡ onto_items (views.trees found) (resolved_all w party (parts_of (part_views (drop i ps))))

  pub items-more : (p : Part) (d : Data) (pushed : List Data) → i < length ps → p ≡ get_or ps i p → resolved w party (part_view p) ≡ Ok (views.tree d) → pushed ≡ found ++ d ∷ []
      → ItemsSoFar → all ≡ onto_items (views.trees pushed) (resolved_all w party (parts_of (part_views (drop (i + 1) ps))))
  items-more p d pushed h e made more so_far =
      so_far ∙ ap (λ (qs : List Part). onto_items (views.trees found) (resolved_all w party (parts_of (part_views qs)))) (next_part ps i p h e)
      ∙ onto_items-more w party (views.trees found) (part_view p) (parts_of (part_views (drop (i + 1) ps))) (views.tree d) made
      ∙ ap (λ (ts : List Tree). onto_items ts (resolved_all w party (parts_of (part_views (drop (i + 1) ps))))) (sym (ap views.trees more ∙ map-append views.tree found (d ∷ [])))

  pub items-refused : (p : Part) (r : Refusal) → i < length ps → p ≡ get_or ps i p → ItemsSoFar → resolved w party (part_view p) ≡ Err r → all ≡ Err r
  items-refused p r h e so_far refused =
      so_far ∙ ap (λ (qs : List Part). onto_items (views.trees found) (resolved_all w party (parts_of (part_views qs)))) (next_part ps i p h e)
      ∙ onto_items-refused w party (views.trees found) (part_view p) (parts_of (part_views (drop (i + 1) ps))) r refused

  pub items-done : length ps ≤ i → ItemsSoFar → all ≡ Ok (views.items_of (views.trees found))
  items-done h so_far =
      so_far ∙ ap (λ (qs : List Part). onto_items (views.trees found) (resolved_all w party (parts_of (part_views qs)))) (drop_all i ps h)
      ∙ onto_items-all (views.trees found)

module _ (w : State) (party : List ℕ) (all : Result Fields Refusal) (found : List (List ℕ × Data)) (ps : List (List ℕ × Part)) (i : ℕ) where
  abbrev FieldsSoFar : Type 0
  FieldsSoFar = all ≡ onto_fields (views.named_trees found) (resolved_fields w party (field_parts_of (named_views (drop i ps))))

  pub fields-more : (p : List ℕ × Part) (name : List ℕ) (d : Data) (pushed : List (List ℕ × Data)) → i < length ps → p ≡ get_or ps i p → name ≡ p.0 → resolved w party (part_view p.1) ≡ Ok (views.tree d)
      → pushed ≡ found ++ (name, d) ∷ []
      → FieldsSoFar → all ≡ onto_fields (views.named_trees pushed) (resolved_fields w party (field_parts_of (named_views (drop (i + 1) ps))))
  fields-more p name d pushed h e same made more so_far =
      so_far ∙ ap (λ (qs : List (List ℕ × Part)). onto_fields (views.named_trees found) (resolved_fields w party (field_parts_of (named_views qs)))) (next_part ps i p h e)
      ∙ onto_fields-more w party (views.named_trees found) p.0 (part_view p.1) (field_parts_of (named_views (drop (i + 1) ps))) (views.tree d) made
      ∙ ap (λ (ms : List (List ℕ × Tree)). onto_fields ms (resolved_fields w party (field_parts_of (named_views (drop (i + 1) ps)))))
      (sym (ap views.named_trees more ∙ map-append views.named found ((name, d) ∷ []) ∙ ap (λ n. views.named_trees found ++ (n, views.tree d) ∷ []) same))

  pub fields-refused : (p : List ℕ × Part) (r : Refusal) → i < length ps → p ≡ get_or ps i p → FieldsSoFar → resolved w party (part_view p.1) ≡ Err r → all ≡ Err r
  fields-refused p r h e so_far refused =
      so_far ∙ ap (λ (qs : List (List ℕ × Part)). onto_fields (views.named_trees found) (resolved_fields w party (field_parts_of (named_views qs)))) (next_part ps i p h e)
      ∙ onto_fields-refused w party (views.named_trees found) p.0 (part_view p.1) (field_parts_of (named_views (drop (i + 1) ps))) r refused

  pub fields-done : length ps ≤ i → FieldsSoFar → all ≡ Ok (views.fields_of (views.named_trees found))
  fields-done h so_far =
      so_far ∙ ap (λ (qs : List (List ℕ × Part)). onto_fields (views.named_trees found) (resolved_fields w party (field_parts_of (named_views qs)))) (drop_all i ps h)
      ∙ onto_fields-all (views.named_trees found)

-- ---- an array and a record, by what they hold

module _ (w : State) (party : List ℕ) where
  pub resolved-array : (ps : told.Parts) (us : Items) → resolved_all w party ps ≡ Ok us → resolved w party (told.array ps) ≡ Ok (array us)
  unfolding bind
  resolved-array ps us h = rw h refl

  pub resolved-array_refused : (ps : told.Parts) (r : Refusal) → resolved_all w party ps ≡ Err r → resolved w party (told.array ps) ≡ Err r
  unfolding bind
  resolved-array_refused ps r h = rw h refl

  pub resolved-record : (fs : told.FieldParts) (gs : Fields) → resolved_fields w party fs ≡ Ok gs → resolved w party (told.fields fs) ≡ Ok (fields gs)
  unfolding bind
  resolved-record fs gs h = rw h refl

  pub resolved-record_refused : (fs : told.FieldParts) (r : Refusal) → resolved_fields w party fs ≡ Err r → resolved w party (told.fields fs) ≡ Err r
  unfolding bind
  resolved-record_refused fs r h = rw h refl

pub part-Array : (v : Vec Part Global) → part_view (P.Array v) ≡ told.array (parts_of (part_views v.items))
part-Array v = search (rules, P.the_lemmas)

pub part-Record : (v : Vec (List ℕ × Part) Global) → part_view (P.Record v) ≡ told.fields (field_parts_of (named_views v.items))
part-Record v = search (rules, P.the_lemmas)

-- ---- an exit of a `?`

pub stops-gives : {X Y Z : Type 0} (see : X → Y) (result : Result X Stop) (s : Stop) (inner : Result Z Refusal) (whole : Result Y Refusal) → IsErrAnd result (λ e. e ≡ s) → Fails s inner
    → ((r : Refusal) → inner ≡ Err r → whole ≡ Err r) → Gives see result whole
stops-gives see (Ok x) s inner whole is fails passes = absurd is
stops-gives see (Err e) s inner whole is fails passes = subst (λ z. Fails z whole) (sym is) (by s fails)
  where
    by : (s : Stop) → Fails s inner → Fails s whole
    by NoMemory h = tt
    by (Refused r) h = passes r h
