-- The whole list of what keys have after a key with a place is given a value, or none.
use Rattle.std.proofs.Common.{◌≡◌, List, [], ◌∷◌, refl, sym, ap, ◌∙◌, Bool, true, false, cond}
use Rattle.std.specs.Prelude.{Option, None, Some, is_some}
use Rattle.std.specs.declared.cmp.Ordering.{Ordering}
use Rattle.std.specs.declared.cmp.Ordering.TheVariants.{Less, Equal, Greater}
use Rattle.std.specs.Ordering.{is_eq}
use Rattle.std.specs.Cmp.{IsTotalOrder}
use Rattle.std.proofs.lemmas.Cmp.{eq_by_cmp_equiv}
use Rattle.std.specs.FinMap.{IsAntisymmetric}
use Rattle.std.specs.List.{AllByRecursion}
use Rattle.std.specs.List.Sorted.{IsStrictlySortedBy}
use Rattle.std.specs.Map.{keys_of, lookup, remove_entry, set_value}
use Rattle.std.specs.BTreeMap.{insert_entry, is_at}
use Rattle.std.proofs.lemmas.Map.{NonePasses, lookup-none, none_passes_from_lookup}
use Rattle.std.proofs.lemmas.Map.Entries.{none_below_head, none_past_head}
use Rattle.std.proofs.lemmas.Map.Keys.{IsDistinct-from_sorted, sorted_head, sorted_tail}
use Rattle.turn_stores.specs.declared.undo_map.place.Place.{Place}
use Rattle.turn_stores.specs.UndoPlaces.{AreChanged, entries_of, has, with_value}

-- ---- no key, or each key, passes a test

module _ {K X V : Type 0} (f : X → Option V) where
  pub each_with : (P : K → Type 0) (k : K) (o : Option V) (es : List (K × V)) → P k → AllByRecursion P (keys_of es) → AllByRecursion P (keys_of (with_value k o es))
  each_with P k None es h all = all
  each_with P k (Some v) es h all = (h, all)

  pub each_entry : (P : K → Type 0) (es : List (K × X)) → AllByRecursion P (keys_of es) → AllByRecursion P (keys_of (entries_of f es))
  each_entry P [] h = tt
  each_entry P (e ∷ es) h = each_with P e.0 (f e.1) (entries_of f es) h.0 (each_entry P es h.1)

  none_with : (test : K → Bool) (k : K) (o : Option V) (es : List (K × V)) → test k ≡ false → NonePasses test es → NonePasses test (with_value k o es)
  none_with test k None es h none = none
  none_with test k (Some v) es h none = (h, none)

  pub none_entry : (test : K → Bool) (es : List (K × X)) → NonePasses test es → NonePasses test (entries_of f es)
  none_entry test [] h = tt
  none_entry test (e ∷ es) h = none_with test e.0 (f e.1) (entries_of f es) h.0 (none_entry test es h.1)

-- ---- a key's value is taken

pub none_removed : {K V : Type 0} (test : K → Bool) (es : List (K × V)) → NonePasses test es → remove_entry test es ≡ es
none_removed test [] h = refl
none_removed test (e ∷ es) h = rw h.0 (ap (λ xs. e ∷ xs) (none_removed test es h.1))

none_found : {V : Type 0} (o : Option V) → is_some o ≡ false → o ≡ None
none_found None h = refl
none_found (Some v) h = cc

pub absent_removed : {K V : Type 0} (test : K → Bool) (es : List (K × V)) → is_some (lookup test es) ≡ false → remove_entry test es ≡ es
absent_removed test es h = none_removed test es (none_passes_from_lookup test es (none_found (lookup test es) h))

removed_here : {K V : Type 0} (test : K → Bool) (k : K) (o : Option V) (es : List (K × V)) → test k ≡ true → NonePasses test es → remove_entry test (with_value k o es) ≡ es
removed_here test k None es is none = none_removed test es none
removed_here test k (Some v) es is none = rw is refl

removed_past : {K V : Type 0} (test : K → Bool) (k : K) (o : Option V) (es : List (K × V)) → test k ≡ false → remove_entry test (with_value k o es) ≡ with_value k o (remove_entry test es)
removed_past test k None es is = refl
removed_past test k (Some v) es is = rw is refl

taken_step : {K X V : Type 0} (f : X → Option V) (test : K → Bool) (e : K × X) (es sets : List (K × X)) (w : X) (b : Bool) → f w ≡ None → test e.0 ≡ b → (b ≡ true → NonePasses test es) → entries_of f sets ≡ remove_entry test (entries_of f es) → entries_of f (cond b ((e.0, w) ∷ es) (e ∷ sets)) ≡ remove_entry test (with_value e.0 (f e.1) (entries_of f es))
taken_step f test e es sets w true none is past rest = ap (λ o. with_value e.0 o (entries_of f es)) none ∙ sym (removed_here test e.0 (f e.1) (entries_of f es) is (none_entry f test es (past refl)))
taken_step f test e es sets w false none is past rest = ap (λ xs. with_value e.0 (f e.1) xs) rest ∙ sym (removed_past test e.0 (f e.1) (entries_of f es) is)

entries-taken : {K X V : Type 0} {cmp : K → K → Ordering} (o : IsTotalOrder cmp) (f : X → Option V) (key : K) (es : List (K × X)) (w : X) → IsStrictlySortedBy cmp (keys_of es) → f w ≡ None → entries_of f (set_value (is_at (cmp key)) es w) ≡ remove_entry (is_at (cmp key)) (entries_of f es)
entries-taken o f key [] w s none = refl
entries-taken {cmp = cmp} o f key (e ∷ es) w s none =
    taken_step f (is_at (cmp key)) e es (set_value (is_at (cmp key)) es w) w (is_at (cmp key) e.0) none refl
    (λ is. none_past_head (eq_by_cmp_equiv o) key e es (IsDistinct-from_sorted cmp (keys_of (e ∷ es)) s) is)
    (entries-taken o f key es w (sorted_tail cmp e.0 (keys_of es) s) none)

-- ---- a key is given a value

inserted_first : {K V : Type 0} (cmp : K → K → Ordering) (k : K) (v : V) (es : List (K × V)) → AllByRecursion (λ y. cmp k y ≡ Less) (keys_of es) → insert_entry cmp es k v ≡ (k, v) ∷ es
inserted_first cmp k v [] h = refl
inserted_first cmp k v (e ∷ es) h = rw h.0 refl

inserted_here : {K V : Type 0} (cmp : K → K → Ordering) (k at : K) (v : V) (o : Option V) (es : List (K × V)) → cmp k at ≡ Equal → k ≡ at → AllByRecursion (λ y. cmp at y ≡ Less) (keys_of es) → insert_entry cmp (with_value at o es) k v ≡ (at, v) ∷ es
inserted_here cmp k at v None es is same above = rw same (inserted_first cmp at v es above)
inserted_here cmp k at v (Some u) es is same above = rw is refl

inserted_past : {K V : Type 0} (cmp : K → K → Ordering) (k at : K) (v : V) (o : Option V) (es : List (K × V)) → cmp k at ≡ Greater → insert_entry cmp (with_value at o es) k v ≡ with_value at o (insert_entry cmp es k v)
inserted_past cmp k at v None es is = refl
inserted_past cmp k at v (Some u) es is = rw is refl

given_step : {K X V : Type 0} (cmp : K → K → Ordering) (f : X → Option V) (k : K) (v : V) (e : K × X) (es sets : List (K × X)) (w p : X) (c : Ordering) → f w ≡ Some v → cmp k e.0 ≡ c → (c ≡ Equal → k ≡ e.0) → (c ≡ Less → lookup (is_at (cmp k)) es ≡ None) → AllByRecursion (λ y. cmp e.0 y ≡ Less) (keys_of es) → (lookup (is_at (cmp k)) es ≡ Some p → entries_of f sets ≡ insert_entry cmp (entries_of f es) k v) → cond (is_eq c) (Some e.1) (lookup (is_at (cmp k)) es) ≡ Some p → entries_of f (cond (is_eq c) ((e.0, w) ∷ es) (e ∷ sets)) ≡ insert_entry cmp (with_value e.0 (f e.1) (entries_of f es)) k v
given_step cmp f k v e es sets w p Less gives is same none above rest h = let absent : lookup (is_at (cmp k)) es ≡ None = none refl in cc
given_step cmp f k v e es sets w p Equal gives is same none above rest h = ap (λ o. with_value e.0 o (entries_of f es)) gives ∙ sym (inserted_here cmp k e.0 v (f e.1) (entries_of f es) is (same refl) (each_entry f (λ y. cmp e.0 y ≡ Less) es above))
given_step cmp f k v e es sets w p Greater gives is same none above rest h = ap (λ xs. with_value e.0 (f e.1) xs) (rest h) ∙ sym (inserted_past cmp k e.0 v (f e.1) (entries_of f es) is)

entries-given : {K X V : Type 0} {cmp : K → K → Ordering} (o : IsTotalOrder cmp) (exact : IsAntisymmetric cmp) (f : X → Option V) (key : K) (v : V) (es : List (K × X)) (w p : X) → IsStrictlySortedBy cmp (keys_of es) → f w ≡ Some v → lookup (is_at (cmp key)) es ≡ Some p → entries_of f (set_value (is_at (cmp key)) es w) ≡ insert_entry cmp (entries_of f es) key v
entries-given o exact f key v [] w p s gives h = cc
entries-given {cmp = cmp} o exact f key v (e ∷ es) w p s gives h =
    given_step cmp f key v e es (set_value (is_at (cmp key)) es w) w p (cmp key e.0) gives refl (exact key e.0)
    (λ is. lookup-none (is_at (cmp key)) es ((none_below_head o key e es s is).1))
    (sorted_head cmp e.0 (keys_of es) s)
    (entries-given o exact f key v es w p (sorted_tail cmp e.0 (keys_of es) s) gives) h

-- ---- what a change of a key gives

pub are_changed : {K V : Type 0} (cmp : K → K → Ordering) (o : IsTotalOrder cmp) (key : K) (value : Option V) (es : List (K × Place V)) (w p : Place V) → IsStrictlySortedBy cmp (keys_of es) → w.now ≡ value → lookup (is_at (cmp key)) es ≡ Some p → AreChanged cmp key value (entries_of has es) (entries_of has (set_value (is_at (cmp key)) es w))
are_changed cmp o key None es w p s is h = entries-taken o has key es w s is
are_changed cmp o key (Some v) es w p s is h = λ exact. entries-given o exact has key v es w p s is h
