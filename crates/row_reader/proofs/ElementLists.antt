-- Lists of elements by their JSON.
use Rattle.std.proofs.Common.{◌≡◌, ◌<◌, ◌≤◌, ◌+◌, ◌^◌, ◌⊎◌, inl, inr, ℕ, zero, suc, Bool, true, false, List, [], ◌∷◌, ◌++◌, length, map, take, get_or, Some, refl, sym, ap, subst, ◌∙◌, nat_lt, arith}
use Rattle.std.proofs.lemmas.Cmp.{nat_list_cmp_total}
use Rattle.std.proofs.lemmas.List.{map-append, take_more}
use Rattle.std.specs.List.{AllByRecursion}
use Rattle.std.specs.List.Sorted.{IsStrictlySortedBy}
use Rattle.std.specs.declared.cmp.Ordering.TheVariants.{Less}
use Rattle.serde_json.specs.Data as json
use Rattle.serde_json.specs.Data.{Data, Items, no_items, item}
use Rattle.serde_json.specs.View.{items_of, items_view, view}
use Rattle.serde_json.specs.declared.value.Value.{Value}
use Rattle.row_records.specs.Views.{element_view}
use Rattle.row_records.specs.declared.rows.Element.{Element as Read}
use Rattle.turn_rows.specs.Form.{AreElements, HasElementForm, is_key, key_of}
use Rattle.turn_rows.specs.ReadBack.{element_in, elements_in}
use Rattle.turn_rows.specs.Rows.{element_json, elements_json}
use Rattle.turn_rows.specs.Turns.{Element, key, counted}
use Rattle.turn_rows.specs.amount_math.Content.{key_cmp}
use Rattle.row_reader.specs.Amounts.{AreInOrder, Follows, elements_list}
use Rattle.row_reader.proofs.Numbers.{number_back}

-- ---- one after another

pub grown : (es : List Read) (e : Read) (vs : List Value) (i : ℕ) (v : Value) → i < length vs → v ≡ get_or vs i v → elements_list (map element_view es) ≡ map view (take i vs)
    → element_json (element_view e) ≡ view v → elements_list (map element_view (es ++ e ∷ [])) ≡ map view (take (i + 1) vs)
grown es e vs i v within is so_far one =
    let longer : map view (take (i + 1) vs) ≡ map view (take i vs) ++ view v ∷ [] =
    ap (map view) (take_more vs i v within) ∙ map-append view (take i vs) (get_or vs i v ∷ []) ∙ ap (λ x. map view (take i vs) ++ view x ∷ []) (sym is) in
    let read : elements_list (map element_view (es ++ e ∷ [])) ≡ elements_list (map element_view es) ++ element_json (element_view e) ∷ [] =
    ap elements_list (map-append element_view es (e ∷ [])) ∙ map-append element_json (map element_view es) (element_view e ∷ []) in
    read ∙ ap (λ (ds : List Data). ds ++ element_json (element_view e) ∷ []) so_far ∙ ap (λ d. map view (take i vs) ++ d ∷ []) one ∙ sym longer

pub all_grown : (es : List Read) (e : Read) → AllByRecursion HasElementForm (map element_view es) → HasElementForm (element_view e) → AllByRecursion HasElementForm (map element_view (es ++ e ∷ []))
all_grown [] e h one = (one, tt)
all_grown (x ∷ es) e h one = (h.0, all_grown es e h.1 one)

-- where one can't be read, no list is
pub stops : (xs : List Element) (vs : List Value) (i : ℕ) (v : Value) → i < length vs → v ≡ get_or vs i v → ((x : Element) → HasElementForm x → element_json x ≡ view v → ⊥)
    → AllByRecursion HasElementForm xs → elements_list xs ≡ map view vs → ⊥
stops xs [] i v within is bad h same = absurd (omega (arith, within))
stops [] (w ∷ vs) i v within is bad h same = absurd (cc)
stops (x ∷ xs) (w ∷ vs) zero v within is bad h same = let one : element_json x ≡ view w = cc in bad x h.0 (one ∙ ap view (sym is))
stops (x ∷ xs) (w ∷ vs) (suc i) v within is bad h same = let rest : elements_list xs ≡ map view vs = cc in stops xs vs i v (omega (arith, within)) is bad h.1 rest

-- ---- as items

listed : (es : List Element) → elements_json es ≡ items_of (elements_list es)
listed [] = refl
listed (e ∷ es) = ap (item (element_json e)) (listed es)

unlisted : (xs ys : List Data) → items_of xs ≡ items_of ys → xs ≡ ys
unlisted [] [] h = refl
unlisted [] (y ∷ ys) h = absurd (cc)
unlisted (x ∷ xs) [] h = absurd (cc)
unlisted (x ∷ xs) (y ∷ ys) h =
    let heads : x ≡ y = cc in
    let tails : items_of xs ≡ items_of ys = cc in
    rw (heads, unlisted xs ys tails) refl

pub as_items : (es : List Element) (vs : List Value) → elements_list es ≡ map view vs → elements_json es ≡ items_view vs
as_items es vs h = listed es ∙ ap items_of h

pub as_list : (es : List Element) (vs : List Value) → elements_json es ≡ items_view vs → elements_list es ≡ map view vs
as_list es vs h = unlisted (elements_list es) (map view vs) (sym (listed es) ∙ h)

pub as_many : (es : List Element) (vs : List Value) → elements_list es ≡ map view vs → length es ≡ length vs
as_many [] [] h = refl
as_many [] (v ∷ vs) h = absurd (cc)
as_many (e ∷ es) [] h = absurd (cc)
as_many (e ∷ es) (v ∷ vs) h = let rest : elements_list es ≡ map view vs = cc in ap suc (as_many es vs rest)

-- ---- they tell their elements

element_back : (e : Element) → HasElementForm e → element_in (element_json e) ≡ e
element_back (key s) h = refl
element_back (counted s n) h = ap (counted s) (number_back n (nat_lt n (2 ^ 63)) refl (omega (arith, h.2)))

elements_back : (es : List Element) → AllByRecursion HasElementForm es → elements_in (elements_json es) ≡ es
elements_back [] h = refl
elements_back (e ∷ es) h = rw (element_back e h.0, elements_back es h.1) refl

pub elements_same : (es fs : List Element) → AllByRecursion HasElementForm es → AllByRecursion HasElementForm fs → elements_json es ≡ elements_json fs → es ≡ fs
elements_same es fs h k same = sym (elements_back es h) ∙ ap elements_in same ∙ elements_back fs k

-- ---- in order

abbrev IsOfKind : Bool → List Element → Type 0
IsOfKind b es = AllByRecursion (λ e. is_key e ≡ b) es

kind_of : (e : Element) (es : List Element) → AreInOrder (e ∷ es) → IsOfKind (is_key e) (e ∷ es)
kind_of e [] h = (refl, tt)
kind_of (key k) (key l ∷ es) h = (refl, kind_of (key l) es h.1)
kind_of (key k) (counted l n ∷ es) h = absurd h.0
kind_of (counted k m) (key l ∷ es) h = absurd h.0
kind_of (counted k m) (counted l n ∷ es) h = (refl, kind_of (counted l n) es h.1)

by_kind : (e : Element) (es : List Element) (b : Bool) → is_key e ≡ b → IsOfKind (is_key e) es → IsOfKind true es ⊎ IsOfKind false es
by_kind e es true is h = inl (subst (λ b. IsOfKind b es) is h)
by_kind e es false is h = inr (subst (λ b. IsOfKind b es) is h)

pub one_kind : (es : List Element) → AreInOrder es → IsOfKind true es ⊎ IsOfKind false es
one_kind [] h = inl tt
one_kind (e ∷ es) h = by_kind e (e ∷ es) (is_key e) refl (kind_of e es h)

before : (e f : Element) → Follows e f → key_cmp (key_of e) (key_of f) ≡ Less
before (key k) (key l) h = h
before (key k) (counted l n) h = absurd h
before (counted k m) (key l) h = absurd h
before (counted k m) (counted l n) h = h

all_before : (k l : List ℕ) (ks : List (List ℕ)) → key_cmp k l ≡ Less → AllByRecursion (λ y. key_cmp l y ≡ Less) ks → AllByRecursion (λ y. key_cmp k y ≡ Less) ks
all_before k l [] h all = tt
all_before k l (m ∷ ks) h all = (nat_list_cmp_total.trans k l m h all.0, all_before k l ks h all.1)

pub rising : (es : List Element) → AreInOrder es → IsStrictlySortedBy key_cmp (map key_of es)
unfolding IsStrictlySortedBy
rising [] h = tt
rising (e ∷ []) h = (tt, tt)
rising (e ∷ f ∷ es) h =
    let rest = rising (f ∷ es) h.1 in
    let first : key_cmp (key_of e) (key_of f) ≡ Less = before e f h.0 in
    ((first, all_before (key_of e) (key_of f) (map key_of es) first rest.0), rest)

follows_of : (e f : Element) (b : Bool) → is_key e ≡ b → is_key f ≡ b → key_cmp (key_of e) (key_of f) ≡ Less → Follows e f
follows_of (key k) (key l) b p q h = h
follows_of (key k) (counted l n) b p q h = absurd (cc)
follows_of (counted k m) (key l) b p q h = absurd (cc)
follows_of (counted k m) (counted l n) b p q h = h

in_order_of : (b : Bool) (es : List Element) → IsOfKind b es → IsStrictlySortedBy key_cmp (map key_of es) → AreInOrder es
unfolding IsStrictlySortedBy
in_order_of b [] h up = tt
in_order_of b (e ∷ []) h up = tt
in_order_of b (e ∷ f ∷ es) h up = (follows_of e f b h.0 h.1.0 up.0.0, in_order_of b (f ∷ es) h.1 up.1)

pub in_order : (es : List Element) → AreElements es → AreInOrder es
in_order es h = elim h.of_one_kind [ inl keys ↦ in_order_of true es keys h.rising | inr counts ↦ in_order_of false es counts h.rising ]
