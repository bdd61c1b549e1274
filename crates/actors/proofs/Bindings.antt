-- The labels that a map holds, as the map's look-ups see them.
use Rattle.std.proofs.Common.{◌≡◌, ℕ, zero, suc, ◌≤◌, List, [], ◌∷◌, ◌++◌, map, take, length, length-append, Bool, true, false, cond, ◌&&◌, true≢false, Option, Some, None, option_map, is_some, Result, Ok, Err, OnOk, OnErr, ◌⊎◌, inl, inr, refl, sym, ap, ◌∙◌, Bor, arith}
use Rattle.std.proofs.lemmas.List.{map-append, take-append-le, take-map, take_all, length-take}
use Rattle.std.proofs.lemmas.List.Folds.{list_all-append}
use Rattle.std.proofs.lemmas.Slice.Eq.{bytes_eq-Decides}
use Rattle.std.specs.Map.{lookup}
use Rattle.std.specs.Option.{option_copied, option_map_or}
use Rattle.std.specs.Str.{bytes_eq}
use Rattle.indexmap.specs.IndexMap.{IndexMap, get, insert_entry}
use Rattle.indexmap.proofs.CallerLemmas.{insert_entry-new}
use Rattle.brands.specs.host_text.Words.{is_label}
use Rattle.promise_store.specs.host_data.Tree.{Tree, object}
use Rattle.promise_store.specs.host_data.View.{tree}
use Rattle.promise_store.specs.host_data.declared.data.Data.{Data}
use Rattle.promise_store.specs.host_data.declared.data.Obj.{Obj}
use Rattle.actors.specs.Labels.{Bound, are_labels, binding, bound, bound_to, is_of, label_in, service_of}
use Rattle.actors.specs.Turns.{seen}
use Rattle.actors.specs.declared.name.Name.{Name}

abbrev pub Entry : Type 0
Entry = Name × Data

-- the test by which the map finds a label
abbrev pub Finds : List ℕ → List ℕ → (Name → Bool) → Type 0
Finds party label test = (k : Name) → test k ≡ (bytes_eq party k.party.bytes && bytes_eq label k.label.bytes)

-- a look-up of the map finds what was bound
pub label_in-lookup : (party label : List ℕ) (test : Name → Bool) → Finds party label test → (es : List Entry) → label_in party label (map binding es) ≡ option_map tree (lookup test es)
label_in-lookup party label test finds [] = refl
label_in-lookup party label test finds (e ∷ es) =
    ap (λ b. cond b (Some (tree e.1)) (label_in party label (map binding es))) (sym (finds e.0))
    ∙ by (test e.0) _ _ (label_in-lookup party label test finds es)
  where
    by : (b : Bool) (r : Option Tree) (s : Option Data) → r ≡ option_map tree s → cond b (Some (tree e.1)) r ≡ option_map tree (cond b (Some e.1) s)
    by true r s h = refl
    by false r s h = h

copied : (r : Option (Bor Data)) → option_map (λ there. tree there.now) r ≡ option_map tree (option_copied r)
copied None = refl
copied (Some d) = refl

-- what a look-up lends is what was bound
pub lent-label_in : (party label : List ℕ) (test : Name → Bool) → Finds party label test → (es : List Entry) (r : Option (Bor Data)) → option_copied r ≡ lookup test es
    → option_map (λ there. tree there.now) r ≡ label_in party label (map binding es)
lent-label_in party label test finds es r found = copied r ∙ ap (option_map tree) found ∙ sym (label_in-lookup party label test finds es)

none_below : (r : Option Data) → option_map tree r ≡ None → r ≡ None
none_below None h = refl
none_below (Some d) h = absurd (cc)

none_is : (r : Option Tree) → is_some r ≡ false → r ≡ None
none_is None h = refl
none_is (Some t) h = absurd (cc)

-- what is free was not bound
free-bound_to : (bs : List Bound) (party label : List ℕ) → bound_to bs party label ≡ None → label_in party label bs ≡ None
free-bound_to bs party label h = by (service_of label) h
  where
    by : (r : Option Obj) → option_map_or (λ o. Some (object o)) r (label_in party label bs) ≡ None → label_in party label bs ≡ None
    by None e = e
    by (Some o) e = absurd (cc)

-- the map has no key of a label that is free
pub absent_free : (es : List Entry) (party label : List ℕ) (test : Name → Bool) → Finds party label test → is_some (bound_to (map binding es) party label) ≡ false → lookup test es ≡ None
absent_free es party label test finds free =
    none_below _ (sym (label_in-lookup party label test finds es) ∙ free-bound_to (map binding es) party label (none_is _ free))

-- one more is bound
pub bound_last : (olds news : List Entry) (party label : List ℕ) (name : Name) (d : Data) → name.party.bytes ≡ party → name.label.bytes ≡ label → news ≡ olds ++ (name, d) ∷ []
    → map binding news ≡ map binding olds ++ bound party label (tree d) ∷ []
bound_last olds news party label name d of_party of_label e =
    ap (map binding) e ∙ map-append binding olds ((name, d) ∷ []) ∙ (λ i. map binding olds ++ bound (of_party i) (of_label i) (tree d) ∷ [])

-- those at the turn's start are the same
pub seen_last : (k : ℕ) (bs news : List Bound) (b : Bound) → k ≤ length bs → news ≡ bs ++ b ∷ [] → seen k news ≡ record (seen k bs) { now = bs ++ b ∷ [] }
seen_last k bs news b within e = (λ i. seen k (e i)) ∙ (λ i. record { start = take-append-le k bs (b ∷ []) within i; now = bs ++ b ∷ [] })

pub labels_last : (bs news : List Bound) (b : Bound) → news ≡ bs ++ b ∷ [] → are_labels bs ≡ true → is_label b.party ≡ true → is_label b.label ≡ true → are_labels news ≡ true
labels_last bs news b e labels of_party of_label =
    ap are_labels e
    ∙ list_all-append (λ (x : Bound). is_label x.party && is_label x.label) bs (b ∷ [])
    ∙ rw (labels, of_party, of_label) refl

pub labels_first : (k : ℕ) (bs : List Bound) → are_labels bs ≡ true → are_labels (take k bs) ≡ true
labels_first zero bs h = refl
labels_first (suc k) [] h = refl
labels_first (suc k) (b ∷ bs) h =
    let first : (is_label b.party && is_label b.label) ≡ true = grind arith in
    let others : are_labels bs ≡ true = grind arith in
    rw (first, labels_first k bs others) refl

-- the labels are cut back to those of the turn's start
pub back-labels : (k : ℕ) (olds news : List Entry) → news ≡ take k olds → k ≤ length olds
    → seen k (map binding news) ≡ record { start = take k (map binding olds); now = take k (map binding olds) }
back-labels k olds news e within =
    let cut : map binding news ≡ take k (map binding olds) = ap (map binding) e ∙ sym (take-map binding k olds) in
    (λ i. seen k (cut i)) ∙ (λ i. record { start = take_all k (take k (map binding olds)) (short k (map binding olds)) i; now = take k (map binding olds) })
  where
    short : (j : ℕ) (bs : List Bound) → length (take j bs) ≤ j
    short j bs = rw (length-take j bs) (omega arith)

-- what an insertion at a new key leaves: one more entry, or the same ones
pub inserted : {A E S : Type 0} (r : Result A E) (eq : Name → Name → Bool) (m : IndexMap Name Data S) (news : List Entry) (name : Name) (d : Data) → get eq m name ≡ None
    → OnOk r (news ≡ insert_entry eq m.entries name d) → OnErr r (news ≡ m.entries) → (news ≡ m.entries ++ (name, d) ∷ []) ⊎ (news ≡ m.entries)
inserted (Ok x) eq m news name d none ok err = inl (ok ∙ insert_entry-new eq m name d none)
inserted (Err e) eq m news name d none ok err = inr err

pub within_inserted : (k : ℕ) (olds news : List Entry) (e : Entry) → k ≤ length olds → (news ≡ olds ++ e ∷ []) ⊎ (news ≡ olds) → k ≤ length news
within_inserted k olds news e within (inl added) = rw (added, length-append) (omega (arith, within))
within_inserted k olds news e within (inr same) = rw same within

pub labels_inserted : (olds news : List Entry) (name : Name) (d : Data) → is_label name.party.bytes ≡ true → is_label name.label.bytes ≡ true → are_labels (map binding olds) ≡ true
    → (news ≡ olds ++ (name, d) ∷ []) ⊎ (news ≡ olds) → are_labels (map binding news) ≡ true
labels_inserted olds news name d of_party of_label labels (inl added) =
    labels_last (map binding olds) (map binding news) (bound name.party.bytes name.label.bytes (tree d)) (bound_last olds news _ _ name d refl refl added) labels of_party of_label
labels_inserted olds news name d of_party of_label labels (inr same) = rw same labels

-- nothing that is no label was bound
pub unlabelled : (bs : List Bound) (party label : List ℕ) → are_labels bs ≡ true → is_label label ≡ false → label_in party label bs ≡ None
unlabelled [] party label h without = refl
unlabelled (b ∷ bs) party label h without =
    let first : is_label b.label ≡ true = grind arith in
    let others : are_labels bs ≡ true = grind arith in
    by (bytes_eq party b.party) (bytes_eq label b.label) refl first (unlabelled bs party label others without)
  where
    by : (p l : Bool) → bytes_eq label b.label ≡ l → is_label b.label ≡ true → label_in party label bs ≡ None → cond (p && l) (Some b.value) (label_in party label bs) ≡ None
    by true true e labelled rest = absurd (true≢false (sym labelled ∙ ap is_label (sym ((bytes_eq-Decides label b.label).0 e)) ∙ without))
    by true false e labelled rest = rest
    by false l e labelled rest = rest

-- ---- a label more, and what stands under it and under others

label_in-last : (bs : List Bound) (b : Bound) (party label : List ℕ) → label_in party label bs ≡ None → label_in party label (bs ++ b ∷ []) ≡ label_in party label (b ∷ [])
label_in-last [] b party label h = refl
label_in-last (x ∷ xs) b party label h = by (is_of party label x) h (λ rest. label_in-last xs b party label rest)
  where
    by : (r : Bool) → cond r (Some x.value) (label_in party label xs) ≡ None → (label_in party label xs ≡ None → label_in party label (xs ++ b ∷ []) ≡ label_in party label (b ∷ []))
        → cond r (Some x.value) (label_in party label (xs ++ b ∷ [])) ≡ label_in party label (b ∷ [])
    by true e more = absurd (cc)
    by false e more = more e

label_in-other : (bs : List Bound) (b : Bound) (party label : List ℕ) → is_of party label b ≡ false → label_in party label (bs ++ b ∷ []) ≡ label_in party label bs
label_in-other [] b party label h = ap (λ r. cond r (Some b.value) None) h
label_in-other (x ∷ xs) b party label h = ap (λ (r : Option Tree). cond (is_of party label x) (Some x.value) r) (label_in-other xs b party label h)

is_own : (party label : List ℕ) (t : Tree) → is_of party label (bound party label t) ≡ true
is_own party label t = rw ((bytes_eq-Decides party party).1 refl, (bytes_eq-Decides label label).1 refl) refl

pub bound_here : (bs : List Bound) (party label : List ℕ) (t : Tree) → bound_to bs party label ≡ None → bound_to (bs ++ bound party label t ∷ []) party label ≡ Some t
bound_here bs party label t free = by (service_of label) free
  where
    by : (r : Option Obj) → option_map_or (λ o. Some (object o)) r (label_in party label bs) ≡ None → option_map_or (λ o. Some (object o)) r (label_in party label (bs ++ bound party label t ∷ [])) ≡ Some t
    by None e = label_in-last bs (bound party label t) party label e ∙ ap (λ r. cond r (Some t) None) (is_own party label t)
    by (Some o) e = absurd (cc)

pub bound_elsewhere : (bs : List Bound) (b : Bound) (party label : List ℕ) → is_of party label b ≡ false → bound_to (bs ++ b ∷ []) party label ≡ bound_to bs party label
bound_elsewhere bs b party label h = ap (λ r. option_map_or (λ o. Some (object o)) (service_of label) r) (label_in-other bs b party label h)
