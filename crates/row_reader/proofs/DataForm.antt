-- Data item by item, and the fields of a record one by one.
use Rattle.std.proofs.Common.{◌≡◌, ◌<◌, ◌+◌, ◌⊎◌, inl, inr, ℕ, zero, suc, List, [], ◌∷◌, ◌++◌, Bool, true, false, Option, Some, None}
use Rattle.std.proofs.Common.{length, map, take, get_or, refl, sym, ap, subst, ◌∙◌, arith, String, string_bytes, Global}
use Rattle.std.specs.Bool.{Decides}
use Rattle.std.specs.List.{AllByRecursion}
use Rattle.std.specs.List.Sorted.{IsStrictlySortedBy}
use Rattle.std.specs.Map.{keys_of}
use Rattle.std.specs.String.{string_cmp}
use Rattle.std.specs.declared.cmp.Ordering.TheVariants.{Less}
use Rattle.serde_json.specs.Data as json
use Rattle.serde_json.specs.Data.{Data, Members, member, no_members}
use Rattle.serde_json.specs.Find.{as_str}
use Rattle.serde_json.specs.View.{items_view, members_view, view}
use Rattle.serde_json.specs.declared.value.Value.{Value}
use Rattle.turn_rows.specs.Form.{AreData, AreFields, IsData, IsMark, names_of}
use Rattle.turn_rows.specs.amount_math.Content.{key_cmp}
use Rattle.turn_rows.specs.host_text.Words.{is_field_name}
use Rattle.row_reader.specs.Members.{only_in, only_of}

-- ---- what a test says

pub yes : {P : Type 0} → P → Decides true P
yes p = ((λ h. p), (λ q. refl))

pub no : {P : Type 0} → (P → ⊥) → Decides false P
no isnt = ((λ (h : false ≡ true). absurd (cc)), (λ p. absurd (isnt p)))

pub no_by : {P : Type 0} (b : Bool) → Decides b P → b ≡ false → P → ⊥
no_by b test false_is p = let both : false ≡ true = sym false_is ∙ test.1 p in absurd (cc)

pub same_test : {P Q : Type 0} (b : Bool) → (P → Q) → (Q → P) → Decides b P → Decides b Q
same_test b there back test = ((λ h. there (test.0 h)), (λ q. test.1 (back q)))

-- ---- items

pub no_data : (vs : List Value) (i : ℕ) (v : Value) → i < length vs → v ≡ get_or vs i v → (IsData (view v) → ⊥)
    → AreData (items_view vs) → ⊥
no_data [] i v within is bad all = absurd (omega arith)
no_data (w ∷ vs) zero v within is bad all = bad (subst (λ u. IsData (view u)) (sym is) all.0)
no_data (w ∷ vs) (suc i) v within is bad all = no_data vs i v (omega arith) is bad all.1

one_more : (vs : List Value) (i : ℕ) (v : Value) → i < length vs → v ≡ get_or vs i v → AreData (items_view (take i vs))
    → IsData (view v) → AreData (items_view (take (suc i) vs))
one_more [] i v within is all one = absurd (omega arith)
one_more (w ∷ vs) zero v within is all one = (subst (λ u. IsData (view u)) is one, tt)
one_more (w ∷ vs) (suc i) v within is all one = (all.0, one_more vs i v (omega arith) is all.1 one)

pub more_data : (vs : List Value) (i j : ℕ) (v : Value) → j ≡ i + 1 → i < length vs → v ≡ get_or vs i v
    → AreData (items_view (take i vs)) → IsData (view v) → AreData (items_view (take j vs))
more_data vs i j v next within is all one =
    let after : suc i ≡ j = omega (arith, next) in
    subst (λ k. AreData (items_view (take k vs))) after (one_more vs i v within is all one)

-- ---- fields

abbrev pub Entry : Type 0
Entry = String Global × Value

pub no_fields : (done : List Entry) (e : Entry) (more : List Entry)
    → (is_field_name (string_bytes e.0) ≡ true → IsData (view e.1) → ⊥) → AreFields (members_view (done ++ e ∷ more)) → ⊥
no_fields [] e more bad all = bad all.0 all.1
no_fields (d ∷ done) e more bad all = no_fields done e more bad all.2

pub more_fields : (done : List Entry) (e : Entry) → AreFields (members_view done) → is_field_name (string_bytes e.0) ≡ true
    → IsData (view e.1) → AreFields (members_view (done ++ e ∷ []))
more_fields [] e all name one = (name, one, tt)
more_fields (d ∷ done) e all name one = (all.0, all.1, more_fields done e all.2 name one)

above : (k : String Global) (es : List Entry) → AllByRecursion (λ y. string_cmp k y ≡ Less) (keys_of es)
    → AllByRecursion (λ y. key_cmp (string_bytes k) y ≡ Less) (names_of (members_view es))
above k [] h = tt
above k (e ∷ es) h = (h.0, above k es h.1)

-- the names of a map rise
pub names_rise : (es : List Entry) → IsStrictlySortedBy string_cmp (keys_of es)
    → IsStrictlySortedBy key_cmp (names_of (members_view es))
unfolding IsStrictlySortedBy
names_rise [] h = tt
names_rise (e ∷ es) h = (above e.0 es h.0, names_rise es h.1)

-- ---- marks

pub one_member : (d : Data) (ms : Members) (k : List ℕ) (v : Data) → Some (k, v) ≡ only_in d → d ≡ json.object ms
    → ms ≡ member k v no_members
one_member d ms k v one is = of_members ms (one ∙ ap only_in is)
  where
    of_members : (l : Members) → Some (k, v) ≡ only_of l → l ≡ member k v no_members
    of_members no_members h = cc
    of_members (member m w no_members) h =
        let pair : (k, v) ≡ (m, w) = cc in
        let name : k ≡ m = ap (λ (p : List ℕ × Data). p.0) pair in
        let value : v ≡ w = ap (λ (p : List ℕ × Data). p.1) pair in
        rw (name, value) refl
    of_members (member m w (member n u l)) h = cc

not_alone : (ms : Members) → None ≡ only_of ms → IsMark ms → ⊥
not_alone no_members h mark = mark
not_alone (member k v no_members) h mark = absurd (cc)
not_alone (member k json.null (member l d ms)) h mark = mark
not_alone (member k (json.boolean b) (member l d ms)) h mark = mark
not_alone (member k (json.number n) (member l d ms)) h mark = mark
not_alone (member k (json.string s) (member l d ms)) h mark = mark
not_alone (member k (json.array ds) (member l d ms)) h mark = mark
not_alone (member k (json.object ns) (member l d ms)) h mark = mark

-- without one member there is no mark
pub no_mark : (d : Data) (ms : Members) → None ≡ only_in d → d ≡ json.object ms → IsMark ms → ⊥
no_mark d ms none is = not_alone ms (none ∙ ap only_in is)

no_text : (k : List ℕ) (v : Data) → None ≡ as_str v → IsMark (member k v no_members) → ⊥
no_text k json.null h mark = mark
no_text k (json.boolean b) h mark = mark
no_text k (json.number n) h mark = mark
no_text k (json.string s) h mark = absurd (cc)
no_text k (json.array ds) h mark = mark
no_text k (json.object ns) h mark = mark

-- nor where it is no text
pub no_text_mark : (d : Data) (ms : Members) (k : List ℕ) (v : Data) → Some (k, v) ≡ only_in d → None ≡ as_str v
    → d ≡ json.object ms → IsMark ms → ⊥
no_text_mark d ms k v one none is mark = no_text k v none (subst IsMark (one_member d ms k v one is) mark)

text_is : (v : Data) (s : List ℕ) → Some s ≡ as_str v → v ≡ json.string s
text_is json.null s h = cc
text_is (json.boolean b) s h = cc
text_is (json.number n) s h = cc
text_is (json.string t) s h = cc
text_is (json.array ds) s h = cc
text_is (json.object ns) s h = cc

-- a text under one name is a mark by these two
pub text_mark : (d : Data) (ms : Members) (k : List ℕ) (v : Data) (s : List ℕ) (b : Bool) → Some (k, v) ≡ only_in d
    → Some s ≡ as_str v → d ≡ json.object ms → Decides b (IsMark (member k (json.string s) no_members)) → Decides b (IsMark ms)
text_mark d ms k v s b one text is test =
    let same : ms ≡ member k (json.string s) no_members =
    one_member d ms k v one is ∙ ap (λ w. member k w no_members) (text_is v s text) in
    subst (λ l. Decides b (IsMark l)) (sym same) test

-- ---- objects

pub mark_or_fields : {F : Type 0} (d : Data) (ms : Members) (b : Bool) → d ≡ json.object ms
    → ((l : Members) → d ≡ json.object l → Decides b (IsMark l)) → b ≡ true → Decides true (IsMark ms ⊎ F)
mark_or_fields d ms b is test yes_is = yes (inl ((test ms is).0 yes_is))

pub fields_alone : {F : Type 0} (d : Data) (ms : Members) (b a : Bool) → d ≡ json.object ms
    → ((l : Members) → d ≡ json.object l → Decides b (IsMark l)) → b ≡ false → Decides a F → Decides a (IsMark ms ⊎ F)
fields_alone {F = F} d ms b a is test no_is fields = ((λ h. inr (fields.0 h)), back)
  where
    back : IsMark ms ⊎ F → a ≡ true
    back (inl mark) = absurd (no_by b (test ms is) no_is mark)
    back (inr f) = fields.1 f
