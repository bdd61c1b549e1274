-- What the places' values are after a place is written, made or removed.
use Rattle.std.proofs.Common.{◌≡◌, ℕ, ◌+◌, ◌<◌, ◌≤◌, List, [], ◌∷◌, length, refl, sym, ap, ◌∙◌, arith, Bool, true, false, not, cond, ◌&&◌}
use Rattle.std.specs.Prelude.{Option, None, Some, is_some}
use Rattle.std.specs.declared.cmp.Ordering.{Ordering}
use Rattle.std.specs.declared.cmp.Ordering.TheVariants.{Less, Equal, Greater}
use Rattle.std.specs.Ordering.{is_eq, is_le, match_ordering}
use Rattle.std.specs.declared.ops.Bound.TheVariants.{Included, Unbounded}
use Rattle.std.specs.BTreeMap.Range.{entries_between}
use Rattle.turn_stores.specs.UndoTurns.{first_from}
use Rattle.std.specs.Cmp.{IsEquivalence}
use Rattle.std.specs.List.{IsDistinct, sum_by}
use Rattle.std.specs.Map.{keys_of, values_of, lookup, set_value, remove_entry}
use Rattle.std.specs.BTreeMap.{is_at, insert_entry}
use Rattle.std.proofs.lemmas.Map.{lookup-none}
use Rattle.std.proofs.lemmas.Map.Entries.{none_past_head}
use Rattle.std.proofs.lemmas.Map.Keys.{IsDistinct-tail}
use Rattle.std.proofs.lemmas.List.Sums.{sum_by-cons}
use Rattle.turn_stores.specs.declared.undo_map.place.Before.{Before}
use Rattle.turn_stores.specs.declared.undo_map.place.Before.TheVariants.{Same, Other}
use Rattle.turn_stores.specs.declared.undo_map.place.End.{End}
use Rattle.turn_stores.specs.declared.undo_map.place.End.TheVariants.{Back, Forget}
use Rattle.turn_stores.specs.declared.undo_map.place.Place.{Place}
use Rattle.turn_stores.specs.UndoPlaces.{changes, had_before, has, is_unsettled_at, is_same, is_same_before, entries_of, settled, with_value}

-- the value that f gives of the place, where there is one
abbrev pub of_place : {X V : Type 0} → (X → Option V) → Option X → Option V
of_place f None = None
of_place f (Some p) = f p

-- ---- look-ups

cond_none : {V : Type 0} (b : Bool) (x : Option V) → (b ≡ true → x ≡ None) → x ≡ cond b None x
cond_none true x h = h refl
cond_none false x h = refl

lookup_with : {K V : Type 0} (test : K → Bool) (k : K) (o : Option V) (es : List (K × V)) → (test k ≡ true → lookup test es ≡ None) → lookup test (with_value k o es) ≡ cond (test k) o (lookup test es)
lookup_with test k None es h = cond_none (test k) (lookup test es) h
lookup_with test k (Some v) es h = refl

of_cond : {X V : Type 0} (f : X → Option V) (b : Bool) (p : X) (o : Option X) → cond b (f p) (of_place f o) ≡ of_place f (cond b (Some p) o)
of_cond f true p o = refl
of_cond f false p o = refl

pub lookup-entries : {K X V : Type 0} {eq : K → K → Bool} (laws : IsEquivalence eq) (f : X → Option V) (q : K) (es : List (K × X)) → IsDistinct eq (keys_of es) → lookup (eq q) (entries_of f es) ≡ of_place f (lookup (eq q) es)
lookup-entries laws f q [] d = refl
lookup-entries {eq = eq} laws f q (e ∷ es) d =
    let rest : lookup (eq q) (entries_of f es) ≡ of_place f (lookup (eq q) es) = lookup-entries laws f q es (IsDistinct-tail eq e.0 (keys_of es) d) in
    lookup_with (eq q) e.0 (f e.1) (entries_of f es) (λ h. rest ∙ ap (of_place f) (lookup-none (eq q) es (none_past_head laws q e es d h)))
    ∙ (ap (λ o. cond (eq q e.0) (f e.1) o) rest ∙ of_cond f (eq q e.0) e.1 (lookup (eq q) es))

-- ---- a place is written

set_step : {K X V : Type 0} (f : X → Option V) (e : K × X) (es sets : List (K × X)) (o : Option X) (w p : X) (b : Bool) → f w ≡ f p → (o ≡ Some p → entries_of f sets ≡ entries_of f es) → cond b (Some e.1) o ≡ Some p → entries_of f (cond b ((e.0, w) ∷ es) (e ∷ sets)) ≡ with_value e.0 (f e.1) (entries_of f es)
set_step f e es sets o w p true same rest h = let is : e.1 ≡ p = cc in ap (λ v. with_value e.0 v (entries_of f es)) (same ∙ ap f (sym is))
set_step f e es sets o w p false same rest h = ap (λ xs. with_value e.0 (f e.1) xs) (rest h)

pub entries-set_value : {K X V : Type 0} (f : X → Option V) (test : K → Bool) (es : List (K × X)) (w p : X) → f w ≡ f p → lookup test es ≡ Some p → entries_of f (set_value test es w) ≡ entries_of f es
entries-set_value f test [] w p same h = refl
entries-set_value f test (e ∷ es) w p same h = set_step f e es (set_value test es w) (lookup test es) w p (test e.0) same (entries-set_value f test es w p same) h

-- ---- a place without a value is made, or removed

insert_step : {K X V : Type 0} (f : X → Option V) (k : K) (e : K × X) (es ins : List (K × X)) (o : Option X) (w : X) (c : Ordering) → f w ≡ None → (o ≡ None → entries_of f ins ≡ entries_of f es) → cond (is_eq c) (Some e.1) o ≡ None → entries_of f (match_ordering c ((k, w) ∷ e ∷ es) ((e.0, w) ∷ es) (e ∷ ins)) ≡ with_value e.0 (f e.1) (entries_of f es)
insert_step f k e es ins o w Less none rest h = ap (λ v. with_value k v (with_value e.0 (f e.1) (entries_of f es))) none
insert_step f k e es ins o w Equal none rest h = cc
insert_step f k e es ins o w Greater none rest h = ap (λ xs. with_value e.0 (f e.1) xs) (rest h)

pub entries-insert_entry : {K X V : Type 0} (f : X → Option V) (cmp : K → K → Ordering) (es : List (K × X)) (k : K) (w : X) → f w ≡ None → lookup (is_at (cmp k)) es ≡ None → entries_of f (insert_entry cmp es k w) ≡ entries_of f es
entries-insert_entry f cmp [] k w none h = ap (λ v. with_value k v []) none
entries-insert_entry f cmp (e ∷ es) k w none h = insert_step f k e es (insert_entry cmp es k w) (lookup (is_at (cmp k)) es) w (cmp k e.0) none (entries-insert_entry f cmp es k w none) h

remove_step : {K X V : Type 0} (f : X → Option V) (e : K × X) (es removed : List (K × X)) (o : Option X) (p : X) (b : Bool) → f p ≡ None → (o ≡ Some p → entries_of f removed ≡ entries_of f es) → cond b (Some e.1) o ≡ Some p → entries_of f (cond b es (e ∷ removed)) ≡ with_value e.0 (f e.1) (entries_of f es)
remove_step f e es removed o p true none rest h = let is : e.1 ≡ p = cc in sym (ap (λ v. with_value e.0 v (entries_of f es)) (ap f is ∙ none))
remove_step f e es removed o p false none rest h = ap (λ xs. with_value e.0 (f e.1) xs) (rest h)

pub entries-remove_entry : {K X V : Type 0} (f : X → Option V) (test : K → Bool) (es : List (K × X)) (p : X) → f p ≡ None → lookup test es ≡ Some p → entries_of f (remove_entry test es) ≡ entries_of f es
entries-remove_entry f test [] p none h = refl
entries-remove_entry f test (e ∷ es) p none h = remove_step f e es (remove_entry test es) (lookup test es) p (test e.0) none (entries-remove_entry f test es p none) h

-- ---- nothing has changed

had_same : {V : Type 0} (b : Before V) (x : Option V) → is_same_before b ≡ true → had_before b x ≡ x
had_same Same x h = refl
had_same (Other y) x h = cc

pub settled_same : {V : Type 0} (end : End) (p : Place V) → is_same p ≡ true → settled end p ≡ has p
settled_same Back p h = had_same p.before p.now h
settled_same Forget p h = refl

same_from : (b c : Bool) → not (b && c) ≡ false → b ≡ true
same_from true c h = refl
same_from false c h = sym h

unchanged_rest : {V : Type 0} (b : Bool) (p : Place V) (o : Option (Place V)) → (b ≡ true → o ≡ None) → is_unsettled_at (cond b (Some p) o) ≡ false → is_unsettled_at o ≡ false
unchanged_rest true p o none h = ap (λ x. is_unsettled_at x) (none refl)
unchanged_rest false p o none h = h

pub entries_same : {K V : Type 0} {eq : K → K → Bool} (laws : IsEquivalence eq) (f g : Place V → Option V) → ((p : Place V) → is_same p ≡ true → f p ≡ g p) → (es : List (K × Place V)) → IsDistinct eq (keys_of es) → ((q : K) → is_unsettled_at (lookup (eq q) es) ≡ false) → entries_of f es ≡ entries_of g es
entries_same laws f g same [] d h = refl
entries_same {eq = eq} laws f g same (e ∷ es) d h =
    let first : is_same e.1 ≡ true = same_from (is_same e.1) (is_some e.1.now) (rw (laws.refl e.0) at (h e.0)) in
    let rest : entries_of f es ≡ entries_of g es = entries_same laws f g same es (IsDistinct-tail eq e.0 (keys_of es) d) (λ q. unchanged_rest (eq q e.0) e.1 (lookup (eq q) es) (λ t. lookup-none (eq q) es (none_past_head laws q e es d t)) (h q)) in
    ap (λ v. with_value e.0 v (entries_of f es)) (same e.1 first) ∙ ap (λ xs. with_value e.0 (g e.1) xs) rest

-- ---- how many have changed

changes_few : {V : Type 0} (p : Place V) → changes p ≤ 1
changes_few p = grind arith

pub changes-le : {K V : Type 0} (es : List (K × Place V)) → sum_by changes (values_of es) ≤ length es
changes-le [] = omega arith
changes-le (e ∷ es) = rw (sum_by-cons changes e.1 (values_of es)) (omega (arith, changes_few e.1, changes-le es))

few_step : {V : Type 0} (p x : Place V) (o : Option (Place V)) (b : Bool) (n m : ℕ) → n ≤ m → (o ≡ Some p → n < m) → is_same p ≡ true → cond b (Some x) o ≡ Some p → changes x + n < m + 1
few_step p x o true n m le rest same h = let is : x ≡ p = cc in let none : changes x ≡ 0 = ap (λ y. changes y) is ∙ ap (λ b. cond b 0 1) same in omega arith
few_step p x o false n m le rest same h = let l : n < m = rest h in omega (arith, changes_few x)

pub changes-less : {K V : Type 0} (test : K → Bool) (es : List (K × Place V)) (p : Place V) → is_same p ≡ true → lookup test es ≡ Some p → sum_by changes (values_of es) < length es
changes-less test [] p same h = cc
changes-less test (e ∷ es) p same h = rw (sum_by-cons changes e.1 (values_of es)) (let l : changes e.1 + sum_by changes (values_of es) < length es + 1 = few_step p e.1 (lookup test es) (test e.0) (sum_by changes (values_of es)) (length es) (changes-le es) (changes-less test es p same) same h in omega arith)

-- ---- a place where the turn ends

pub settled_again : {V : Type 0} (end : End) (w : Place V) (o : Option V) → w.before ≡ Same → w.now ≡ o → settled end w ≡ o
settled_again end w o same is = settled_same end w (rw same refl) ∙ is

pub none_settled : {V : Type 0} (o : Option V) → is_some o ≡ false → o ≡ None
none_settled None h = refl
none_settled (Some v) h = cc

-- ---- the first key from one on

abbrev pub first_key : {K V : Type 0} → List (K × V) → Option K
first_key [] = None
first_key (e ∷ es) = Some e.0

first_step : {K V : Type 0} (cmp : K → K → Ordering) (k : K) (e : K × Place V) (es from : List (K × Place V)) (o : Option V) (b : Bool) → first_from cmp k (entries_of has es) ≡ first_key (entries_of has from) → is_le (cmp k e.0) ≡ b → o ≡ e.1.now → first_from cmp k (with_value e.0 o (entries_of has es)) ≡ first_key (entries_of has (cond (b && true) (e ∷ from) from))
first_step cmp k e es from None true rest at is = rw (← is) rest
first_step cmp k e es from (Some v) true rest at is = rw (at, ← is) refl
first_step cmp k e es from None false rest at is = rest
first_step cmp k e es from (Some v) false rest at is = rw at rest

pub first_from-range : {K V : Type 0} (cmp : K → K → Ordering) (k : K) (es : List (K × Place V)) → first_from cmp k (entries_of has es) ≡ first_key (entries_of has (entries_between cmp (Included k) Unbounded es))
first_from-range cmp k [] = refl
first_from-range cmp k (e ∷ es) = first_step cmp k e es (entries_between cmp (Included k) Unbounded es) e.1.now (is_le (cmp k e.0)) (first_from-range cmp k es) refl refl

value_step : {K V : Type 0} (k : K) (o : Option V) (es : List (K × V)) → is_some o ≡ true → first_key (with_value k o es) ≡ Some k
value_step k (Some v) es h = refl
value_step k None es h = cc

pub first_value : {K V : Type 0} (e : K × Place V) (es : List (K × Place V)) → is_some e.1.now ≡ true → first_key (entries_of has (e ∷ es)) ≡ Some e.0
first_value e es h = value_step e.0 e.1.now (entries_of has es) h

pub first_none : {K V : Type 0} (e : K × Place V) (es : List (K × Place V)) → is_some e.1.now ≡ false → first_key (entries_of has (e ∷ es)) ≡ first_key (entries_of has es)
first_none e es h = rw (none_settled e.1.now h) refl
