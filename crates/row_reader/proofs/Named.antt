-- Members taken by name are all that an object has, where it has these names.
use Rattle.std.proofs.Common.{◌≡◌, ◌&&◌, ℕ, List, [], ◌∷◌, Bool, true, false, not, Option, Some, None}
use Rattle.std.proofs.Common.{option_and_then, refl, sym, ap, subst, ◌∙◌}
use Rattle.std.specs.Ordering.{is_eq, match_ordering, nat_cmp}
use Rattle.std.specs.Cmp.Lexicographic.{slice_cmp}
use Rattle.std.specs.declared.cmp.Ordering.{Ordering}
use Rattle.std.specs.declared.cmp.Ordering.TheVariants.{Equal, Greater, Less}
use Rattle.std.specs.List.{list_all}
use Rattle.std.proofs.lemmas.Map.Text.{is_eq-slice_cmp}
use Rattle.std.proofs.lemmas.Slice.Eq.{bytes_eq-Decides}
use Rattle.std.specs.Str.{bytes_eq}
use Rattle.serde_json.specs.Data as json
use Rattle.serde_json.specs.Data.{Data, Items, Members, member, no_members, unsigned}
use Rattle.serde_json.specs.Find.{as_array, as_number, as_object, as_str, as_u64, get_member}
use Rattle.turn_rows.specs.Form.{names_of}

-- ---- what was found under a name

pub object_is : (d : Data) (ms : Members) → Some ms ≡ as_object d → d ≡ json.object ms
object_is json.null ms h = cc
object_is (json.boolean b) ms h = cc
object_is (json.number n) ms h = cc
object_is (json.string s) ms h = cc
object_is (json.array ds) ms h = cc
object_is (json.object l) ms h = cc

pub text_found : (o : Option Data) (s : List ℕ) → Some s ≡ option_and_then as_str o → o ≡ Some (json.string s)
text_found None s h = cc
text_found (Some json.null) s h = cc
text_found (Some (json.boolean b)) s h = cc
text_found (Some (json.number n)) s h = cc
text_found (Some (json.string t)) s h = cc
text_found (Some (json.array ds)) s h = cc
text_found (Some (json.object ms)) s h = cc

pub items_found : (o : Option Data) (ds : Items) → Some ds ≡ option_and_then as_array o → o ≡ Some (json.array ds)
items_found None ds h = cc
items_found (Some json.null) ds h = cc
items_found (Some (json.boolean b)) ds h = cc
items_found (Some (json.number n)) ds h = cc
items_found (Some (json.string t)) ds h = cc
items_found (Some (json.array es)) ds h = cc
items_found (Some (json.object ms)) ds h = cc

pub members_found : (o : Option Data) (ms : Members) → Some ms ≡ option_and_then as_object o → o ≡ Some (json.object ms)
members_found None ms h = cc
members_found (Some json.null) ms h = cc
members_found (Some (json.boolean b)) ms h = cc
members_found (Some (json.number n)) ms h = cc
members_found (Some (json.string t)) ms h = cc
members_found (Some (json.array es)) ms h = cc
members_found (Some (json.object ns)) ms h = cc

whole_number : (x : json.Num) (n : ℕ) → Some n ≡ as_u64 x → Some (json.number x) ≡ Some (json.number (unsigned n))
whole_number (unsigned m) n h = let same : n ≡ m = cc in rw same refl
whole_number (json.negative z) n h = cc
whole_number (json.float x) n h = cc

pub whole_found : (o : Option Data) (n : ℕ) → Some n ≡ option_and_then as_u64 (option_and_then as_number o)
    → o ≡ Some (json.number (unsigned n))
whole_found None n h = cc
whole_found (Some json.null) n h = cc
whole_found (Some (json.boolean b)) n h = cc
whole_found (Some (json.number x)) n h = whole_number x n h
whole_found (Some (json.string t)) n h = cc
whole_found (Some (json.array es)) n h = cc
whole_found (Some (json.object ms)) n h = cc

-- ---- what wasn't found isn't there

pub no_text : (o : Option Data) (s : List ℕ) → None ≡ option_and_then as_str o → o ≡ Some (json.string s) → ⊥
no_text o s none there = let found : None ≡ Some s = none ∙ ap (option_and_then as_str) there in absurd (cc)

pub no_array : (o : Option Data) (ds : Items) → None ≡ option_and_then as_array o → o ≡ Some (json.array ds) → ⊥
no_array o ds none there = let found : None ≡ Some ds = none ∙ ap (option_and_then as_array) there in absurd (cc)

pub no_object : (o : Option Data) (ms : Members) → None ≡ option_and_then as_object o → o ≡ Some (json.object ms) → ⊥
no_object o ms none there = let found : None ≡ Some ms = none ∙ ap (option_and_then as_object) there in absurd (cc)

pub no_whole : (o : Option Data) (n : ℕ) → None ≡ option_and_then as_u64 (option_and_then as_number o)
    → o ≡ Some (json.number (unsigned n)) → ⊥
no_whole o n none there =
    let found : None ≡ Some n = none ∙ ap (λ p. option_and_then as_u64 (option_and_then as_number p)) there in
    absurd (cc)

-- ---- all members by their names

abbrev pub members_with : List (List ℕ) → List Data → Members
members_with [] ds = no_members
members_with (n ∷ ns) [] = no_members
members_with (n ∷ ns) (d ∷ ds) = member n d (members_with ns ds)

-- under each name its value
abbrev pub Gets : Members → List (List ℕ) → List Data → Type 0
Gets ms [] [] = Unit {0}
Gets ms [] (d ∷ ds) = ⊥
Gets ms (n ∷ ns) [] = ⊥
Gets ms (n ∷ ns) (d ∷ ds) = (get_member n ms ≡ Some d) × Gets ms ns ds

abbrev pub isnt : List ℕ → List ℕ → Bool
isnt k n = not (is_eq (slice_cmp nat_cmp n k))

abbrev pub are_apart : List (List ℕ) → Bool
are_apart [] = true
are_apart (n ∷ ns) = list_all (isnt n) ns && are_apart ns

both : (a b : Bool) → (a && b) ≡ true → (a ≡ true) × (b ≡ true)
both true b h = (refl, h)
both false b h = absurd (cc)

skipped : (o : Ordering) (d : Data) (x : Option Data) → not (is_eq o) ≡ true → match_ordering o x (Some d) x ≡ x
skipped Less d x h = refl
skipped Equal d x h = absurd (cc)
skipped Greater d x h = refl

skip : (k : List ℕ) (d : Data) (ms : Members) (ns : List (List ℕ)) (ds : List Data) → list_all (isnt k) ns ≡ true
    → Gets (member k d ms) ns ds → Gets ms ns ds
skip k d ms [] [] h gets = tt
skip k d ms [] (e ∷ ds) h gets = gets
skip k d ms (n ∷ ns) [] h gets = gets
skip k d ms (n ∷ ns) (e ∷ ds) h gets =
    let apart = both (isnt k n) (list_all (isnt k) ns) h in
    (sym (skipped (slice_cmp nat_cmp n k) d (get_member n ms) apart.0) ∙ gets.0, skip k d ms ns ds apart.1 gets.1)

here : (o : Ordering) (d : Data) (x : Option Data) → is_eq o ≡ true → match_ordering o x (Some d) x ≡ Some d
here Less d x h = absurd (cc)
here Equal d x h = refl
here Greater d x h = absurd (cc)

first : (k : List ℕ) (d : Data) (ms : Members) → get_member k (member k d ms) ≡ Some d
first k d ms =
    here (slice_cmp nat_cmp k k) d (get_member k ms) (is_eq-slice_cmp k k ∙ (bytes_eq-Decides k k).1 refl)

-- each value stands under its name, and there is nothing else
pub all_members : (ns : List (List ℕ)) (ds : List Data) (ms : Members) → names_of ms ≡ ns → are_apart ns ≡ true
    → Gets ms ns ds → ms ≡ members_with ns ds
all_members [] ds no_members named apart gets = refl
all_members [] ds (member k d ms) named apart gets = absurd (cc)
all_members (n ∷ ns) [] ms named apart gets = absurd gets
all_members (n ∷ ns) (e ∷ ds) no_members named apart gets = absurd (cc)
all_members (n ∷ ns) (e ∷ ds) (member k d ms) named apart gets =
    let name : k ≡ n = cc in
    let rest : names_of ms ≡ ns = cc in
    let parts = both (list_all (isnt n) ns) (are_apart ns) apart in
    let value : Some d ≡ Some e = sym (first k d ms) ∙ subst (λ m. get_member m (member k d ms) ≡ Some e) (sym name) gets.0 in
    let same : d ≡ e = cc in
    let more : Gets (member n d ms) ns ds = subst (λ m. Gets (member m d ms) ns ds) name gets.1 in
    rw (name, same, all_members ns ds ms rest parts.1 (skip n d ms ns ds parts.0 more)) refl

-- ---- the names of an object, and what stands in two places

abbrev pub names_in : Data → List (List ℕ)
names_in (json.object ms) = names_of ms
names_in _ = []

pub texts_same : (o : Option Data) (s t : List ℕ) → o ≡ Some (json.string s) → o ≡ Some (json.string t) → s ≡ t
texts_same o s t first second =
    let both_are : Some (json.string s) ≡ Some (json.string t) = sym first ∙ second in
    cc

pub items_same : (o : Option Data) (ds es : Items) → o ≡ Some (json.array ds) → o ≡ Some (json.array es) → ds ≡ es
items_same o ds es first second =
    let both_are : Some (json.array ds) ≡ Some (json.array es) = sym first ∙ second in
    cc

pub data_same : (o : Option Data) (d e : Data) → o ≡ Some d → o ≡ Some e → d ≡ e
data_same o d e first second =
    let both_are : Some d ≡ Some e = sym first ∙ second in
    cc

pub other_name : (k l : List ℕ) → bytes_eq k l ≡ false → k ≡ l → ⊥
other_name k l differ same =
    let both_are : false ≡ true = sym differ ∙ (bytes_eq-Decides k l).1 same in
    absurd (cc)
