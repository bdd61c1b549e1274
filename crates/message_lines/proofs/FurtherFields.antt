-- The first field that a form hasn't, of members in byte order, is the least one.
use Rattle.std.proofs.Common.{◌≡◌, ℕ, List, [], ◌∷◌, Bool, true, false, if◌then◌else◌, Option, Some, None, Ordering, Less, Equal, Greater, nat_cmp, string_cmp, string_bytes, refl}
use Rattle.std.specs.Cmp.Lexicographic.{slice_cmp}
use Rattle.std.specs.List.{AllByRecursion}
use Rattle.std.specs.List.Sorted.{IsStrictlySortedBy}
use Rattle.std.specs.Map.{keys_of}
use Rattle.std.specs.Ordering.{match_ordering}
use Rattle.serde_json.specs.Data.{Members, no_members, member}
use Rattle.serde_json.specs.View.{members_view}
use Rattle.message_lines.specs.Meanings.{Form, is_field_of, lesser, least_further}
use Rattle.message_lines.proofs.ReadParts.{Entry}

-- the first name that a form hasn't
abbrev pub first_further : Form → Members → Option (List ℕ)
first_further form no_members = None
first_further form (member name d ms) = if is_field_of form name then first_further form ms else Some name

-- the name is below the other, where there is one
abbrev Below : List ℕ → Option (List ℕ) → Type 0
Below n None = Unit {0}
Below n (Some m) = slice_cmp nat_cmp n m ≡ Less

below_chosen : (n : List ℕ) (o : Ordering) (a b : Option (List ℕ)) → Below n a → Below n b → Below n (match_ordering o a a b)
below_chosen n Less a b h k = h
below_chosen n Equal a b h k = h
below_chosen n Greater a b h k = k

below_lesser : (n : List ℕ) (a b : Option (List ℕ)) → Below n a → Below n b → Below n (lesser a b)
below_lesser n None b h k = k
below_lesser n (Some x) None h k = h
below_lesser n (Some x) (Some y) h k = below_chosen n (slice_cmp nat_cmp x y) (Some x) (Some y) h k

below_either : (n : List ℕ) (further : Bool) (a b : Option (List ℕ)) → Below n a → Below n b → Below n (if further then a else b)
below_either n true a b h k = h
below_either n false a b h k = k

below_all : (form : Form) (n : List ℕ) (first : Entry) (es : List Entry) → n ≡ string_bytes first.0 → AllByRecursion (λ y. string_cmp first.0 y ≡ Less) (keys_of es) → Below n (least_further form (members_view es))
below_all form n first [] is h = tt
below_all form n first (e ∷ es) is h =
    let here : Below n (Some (string_bytes e.0)) = rw is h.0 in
    let later : Below n (least_further form (members_view es)) = below_all form n first es is h.1 in
    below_either n (is_field_of form (string_bytes e.0)) _ _ later (below_lesser n (Some (string_bytes e.0)) (least_further form (members_view es)) here later)

lesser_below : (n : List ℕ) (o : Option (List ℕ)) → Below n o → lesser (Some n) o ≡ Some n
lesser_below n None h = refl
lesser_below n (Some m) h = rw h

choice : (b : Bool) (x y z w : Option (List ℕ)) → x ≡ y → z ≡ w → (if b then x else z) ≡ (if b then y else w)
choice true x y z w e f = e
choice false x y z w e f = f

pub first_is_least : (form : Form) (es : List Entry) → IsStrictlySortedBy string_cmp (keys_of es) → least_further form (members_view es) ≡ first_further form (members_view es)
unfolding IsStrictlySortedBy
first_is_least form [] h = refl
first_is_least form (e ∷ es) h =
    choice (is_field_of form (string_bytes e.0)) _ _ _ _ (first_is_least form es h.1)
    (lesser_below (string_bytes e.0) (least_further form (members_view es)) (below_all form (string_bytes e.0) e es refl h.0))
