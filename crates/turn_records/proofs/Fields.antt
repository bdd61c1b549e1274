-- Members that are put stand in byte order, each as it was.
use Rattle.std.proofs.Common.{◌≡◌, ℕ, ◌≤◌, List, [], ◌∷◌, true, Ordering, Less, Equal, Greater, refl, ap, ◌∙◌, arith}
use Rattle.std.proofs.lemmas.Cmp.{nat_list_cmp_total}
use Rattle.std.specs.List.{AllByRecursion}
use Rattle.std.specs.List.Sorted.{IsStrictlySortedBy}
use Rattle.std.specs.Ordering.{nat_cmp, match_ordering, ordering_reverse}
use Rattle.std.specs.Cmp.Lexicographic.{slice_cmp}
use Rattle.serde_json.specs.Data.{Data, Members, no_members, member, put, depth, members_depth}
use Rattle.turn_rows.specs.host_text.Words.{is_field_name}
use Rattle.turn_rows.specs.amount_math.Content.{key_cmp}
use Rattle.turn_rows.specs.Form.{AreFields, IsData, names_of}

-- ---- order

IsBefore : List ℕ → List ℕ → Type 0
IsBefore k l = key_cmp k l ≡ Less

AllAfter : List ℕ → List (List ℕ) → Type 0
AllAfter k names = AllByRecursion (IsBefore k) names

later : (k l : List ℕ) (names : List (List ℕ)) → key_cmp k l ≡ Less → AllAfter l names → AllAfter k names
unfolding AllAfter IsBefore
later k l [] first h = tt
later k l (m ∷ names) first h = (nat_list_cmp_total.trans k l m first h.0, later k l names first h.1)

after_put-at : (o : Ordering) (x k l : List ℕ) (d e : Data) (ms : Members) → key_cmp x k ≡ Less → AllAfter x (names_of (member l e ms)) → AllAfter x (names_of (put k d ms))
    → AllAfter x (names_of (match_ordering o (member k d (member l e ms)) (member l d ms) (member l e (put k d ms))))
unfolding AllAfter IsBefore
after_put-at Less x k l d e ms first h more = (first, h)
after_put-at Equal x k l d e ms first h more = h
after_put-at Greater x k l d e ms first h more = (h.0, more)

after_put : (x k : List ℕ) (d : Data) (ms : Members) → key_cmp x k ≡ Less → AllAfter x (names_of ms) → AllAfter x (names_of (put k d ms))
unfolding AllAfter IsBefore
after_put x k d no_members first h = (first, tt)
after_put x k d (member l e ms) first h = after_put-at (slice_cmp nat_cmp k l) x k l d e ms first h (after_put x k d ms first h.1)

sorted_put-at : (o : Ordering) (k l : List ℕ) (d e : Data) (ms : Members) → key_cmp k l ≡ o → IsStrictlySortedBy key_cmp (names_of (member l e ms)) → IsStrictlySortedBy key_cmp (names_of (put k d ms))
    → IsStrictlySortedBy key_cmp (names_of (match_ordering o (member k d (member l e ms)) (member l d ms) (member l e (put k d ms))))
unfolding IsStrictlySortedBy AllAfter IsBefore
sorted_put-at Less k l d e ms is h more = ((is, later k l (names_of ms) is h.0), h)
sorted_put-at Equal k l d e ms is h more = h
sorted_put-at Greater k l d e ms is h more = (after_put l k d ms (nat_list_cmp_total.antisymm l k ∙ ap ordering_reverse is) h.0, more)

pub sorted_put : (k : List ℕ) (d : Data) (ms : Members) → IsStrictlySortedBy key_cmp (names_of ms) → IsStrictlySortedBy key_cmp (names_of (put k d ms))
unfolding IsStrictlySortedBy
sorted_put k d no_members h = (tt, tt)
sorted_put k d (member l e ms) h = sorted_put-at (slice_cmp nat_cmp k l) k l d e ms refl h (sorted_put k d ms h.1)

-- ---- form

fields_put-at : (o : Ordering) (k l : List ℕ) (d e : Data) (ms : Members) → is_field_name k ≡ true → IsData d → AreFields (member l e ms) → AreFields (put k d ms)
    → AreFields (match_ordering o (member k d (member l e ms)) (member l d ms) (member l e (put k d ms)))
fields_put-at Less k l d e ms name is h more = (name, is, h)
fields_put-at Equal k l d e ms name is h more = (h.0, is, h.2)
fields_put-at Greater k l d e ms name is h more = (h.0, h.1, more)

pub fields_put : (k : List ℕ) (d : Data) (ms : Members) → is_field_name k ≡ true → IsData d → AreFields ms → AreFields (put k d ms)
fields_put k d no_members name is h = (name, is, tt)
fields_put k d (member l e ms) name is h = fields_put-at (slice_cmp nat_cmp k l) k l d e ms name is h (fields_put k d ms name is h.2)

-- ---- depth

depth_put-at : (o : Ordering) (k l : List ℕ) (d e : Data) (ms : Members) (n : ℕ) → depth d ≤ n → members_depth (member l e ms) ≤ n → members_depth (put k d ms) ≤ n
    → members_depth (match_ordering o (member k d (member l e ms)) (member l d ms) (member l e (put k d ms))) ≤ n
depth_put-at Less k l d e ms n low h more = omega (arith, low, h)
depth_put-at Equal k l d e ms n low h more = omega (arith, low, h)
depth_put-at Greater k l d e ms n low h more = omega (arith, h, more)

pub depth_put : (k : List ℕ) (d : Data) (ms : Members) (n : ℕ) → depth d ≤ n → members_depth ms ≤ n → members_depth (put k d ms) ≤ n
depth_put k d no_members n low h = omega (arith, low)
depth_put k d (member l e ms) n low h = depth_put-at (slice_cmp nat_cmp k l) k l d e ms n low h (depth_put k d ms n low (omega (arith, h)))
