-- The elements of a value in form, and what going through them one by one makes of contents.
use Rattle.std.proofs.Common.{◌≡◌, ◌≢◌, ◌⊎◌, inl, inr, ℕ, zero, suc, ◌+◌, ◌-◌, ◌<◌, ◌≤◌, ◌||◌, Bool, true, false, cond, Option, Some, None, List, [], ◌∷◌, length, map, drop, get_or, refl, sym, ap, subst, ◌∙◌, arith}
use Rattle.std.proofs.lemmas.Bool.{or_cases, false≢true}
use Rattle.std.proofs.lemmas.List.{drop_all, drop_more, length-map}
use Rattle.std.proofs.lemmas.Map.Keys.{IsDistinct-cons, IsDistinct-from_sorted, IsDistinct-head, IsDistinct-tail}
use Rattle.std.proofs.lemmas.Map.Steps.{length-le_from_keys}
use Rattle.std.specs.Cmp.{eq_by_cmp_equiv}
use Rattle.std.specs.Cmp.Lexicographic.{nat_list_cmp_total}
use Rattle.std.specs.FinMap.{find}
use Rattle.std.specs.List.{AllByRecursion, IsDistinct, list_any}
use Rattle.std.specs.List.Sorted.{IsStrictlySortedBy}
use Rattle.std.specs.Prelude.{String, string_bytes, string_cmp}
use Rattle.std.specs.declared.alloc.Global.{Global}
use Rattle.std.specs.Map.{keys_of, lookup}
use Rattle.std.specs.Option.{IsSome, unwrap_or}
use Rattle.std.specs.Ordering.{eq_by_cmp}
use Rattle.row_records.specs.declared.rows.Element.{Element as CodeElement}
use Rattle.row_records.specs.Views.{element_view}
use Rattle.row_records.specs.amount_math.Content.{Content, Contains, count, count-difference, count-of_entries, count-of_nat, count-sum, counts, difference, key_cmp, listed, of_entries, of_entries-nil, of_nat_zero, same_content, sum, unit}
use Rattle.row_records.specs.amount_math.Entries.{Entries, IsRising, at_key, entry_at, tally}
use Rattle.row_records.specs.amount_math.Sparse.{at-put, put}
use Rattle.row_records.specs.fair_rows.Values.{content_of, entry_of}
use Rattle.row_records.specs.turn_rows.Form.{HasValueForm, key_of}
use Rattle.row_records.specs.turn_rows.Turns.{Element, Value, counted, elements, key, number}
use Rattle.row_records.specs.turn_rows.declared.editions.Edition.{Edition}
use Rattle.row_records.proofs.fair_rows.amount_math.Listed.{at_own_key, found_at, listed-tally, listed_at, same_key}
use Rattle.told_rights.specs.Listing.{AreSome, entries_of, listing}
use Rattle.told_rights.proofs.Formed.{are_entries}
use Rattle.told_rights.proofs.Kept.{held_in, length-listing}

-- ---- as code reads them

pub some_units : (n : ℕ) → n ≢ 0 → 1 ≡ length (entries_of (number n))
some_units zero other = absurd (other refl)
some_units (suc n) other = omega arith

pub no_units : (n : ℕ) → n ≡ 0 → 0 ≡ length (entries_of (number n))
no_units n is = ap (λ m. length (entries_of (number m))) (sym is)

pub as_many : (es : List CodeElement) → length es ≡ length (entries_of (elements (map element_view es)))
as_many es = sym (length-map (map element_view es) entry_of ∙ length-map es element_view)

pub units_at : (n i : ℕ) → i < length (entries_of (number n)) → ◌≡◌ {A = List ℕ × ℕ} ([], n) (entry_at (entries_of (number n)) i)
units_at zero i lt = absurd (omega (arith, lt))
units_at (suc n) zero lt = refl
units_at (suc n) (suc i) lt = absurd (omega (arith, lt))

pub element_read : (es : List CodeElement) (i : ℕ) (r : CodeElement) → i < length es → r ≡ get_or es i r → entry_of (element_view r) ≡ entry_at (entries_of (elements (map element_view es))) i
element_read [] i r lt is = absurd (omega (arith, lt))
element_read (e ∷ es) zero r lt is = ap (λ x. entry_of (element_view x)) is
element_read (e ∷ es) (suc i) r lt is = element_read es i r (omega (arith, lt)) is

pub read_at : (w : Value) (es : List CodeElement) (i : ℕ) (r : CodeElement) → w ≡ elements (map element_view es) → i < length (entries_of w) → r ≡ get_or es i r → entry_of (element_view r) ≡ entry_at (entries_of w) i
read_at w es i r is lt at = subst (λ u. i < length (entries_of u) → entry_of (element_view r) ≡ entry_at (entries_of u) i) (sym is) (λ l. element_read es i r (omega (arith, as_many es, l)) at) lt

pub first_of : (es : List CodeElement) (r : CodeElement) → 0 < length es → r ≡ get_or es 0 r → (rest : List Element) × (map element_view es ≡ element_view r ∷ rest)
first_of [] r some at = absurd (omega (arith, some))
first_of (x ∷ es) r some at = (map element_view es, ap (λ y. element_view y ∷ map element_view es) (sym at))

-- ---- their order

-- elements each of which stands there once, in order, with a count above 0
pub record AreListed (es : Entries) : Type 0 where
  pub rising : IsRising es
  pub some : (j : ℕ) → j < length es → 0 < (entry_at es j).1
  pub distinct : IsDistinct (eq_by_cmp key_cmp) (keys_of es)

keys_same : (es : List Element) → keys_of (map entry_of es) ≡ map key_of es
keys_same [] = refl
keys_same (key s ∷ es) = ap (λ ks. s ∷ ks) (keys_same es)
keys_same (counted s n ∷ es) = ap (λ ks. s ∷ ks) (keys_same es)

no_keys : IsDistinct (eq_by_cmp key_cmp) []
unfolding IsDistinct
no_keys = tt

one_number : (n j : ℕ) → j < length (entries_of (number (suc n))) → 0 < (entry_at (entries_of (number (suc n))) j).1
one_number n zero lt = omega arith
one_number n (suc j) lt = absurd (omega (arith, lt))

pub listed_in_form : (e : Edition) (v : Value) → HasValueForm e v → AreListed (entries_of v)
listed_in_form e (number zero) form = record { rising = tt; some = λ j lt. absurd (omega (arith, lt)); distinct = no_keys }
listed_in_form e (number (suc n)) form = record { rising = tt; some = one_number n; distinct = IsDistinct-cons (eq_by_cmp key_cmp) unit [] tt no_keys }
listed_in_form e (elements es) form = record {
  rising = (are_entries es form).rising;
  some = λ j lt. ((are_entries es form).each j ([], 0) lt).some;
  distinct = subst (λ ks. IsDistinct (eq_by_cmp key_cmp) ks) (sym (keys_same es)) (IsDistinct-from_sorted key_cmp (map key_of es) form.rising);
}

-- ---- their content

chosen : (b : Bool) (n : ℕ) → ◌≡◌ {A = ℕ} (cond b n 0) (unwrap_or (cond b (Some n) None) 0)
chosen true n = refl
chosen false n = refl

pub content_listed : (v : Value) → content_of v ≡ of_entries (entries_of v)
content_listed (number zero) = of_nat_zero ∙ sym of_entries-nil
content_listed (number (suc n)) = same_content _ _ (λ k. count-of_nat (suc n) k ∙ chosen (eq_by_cmp key_cmp k unit) (suc n) ∙ sym (count-of_entries (([], suc n) ∷ []) k))
content_listed (elements es) = refl

pub count_listed_in : (v : Value) (k : List ℕ) → count (content_of v) k ≡ listed (entries_of v) k
count_listed_in v k = ap (λ c. count c k) (content_listed v) ∙ count-of_entries (entries_of v) k

pub count_tally : (e : Edition) (v : Value) → HasValueForm e v → (k : List ℕ) → count (content_of v) k ≡ tally (entries_of v) k
count_tally e v form k = count_listed_in v k ∙ listed-tally (entries_of v) k (listed_in_form e v form).rising

pub count_there : (e : Edition) (v : Value) → HasValueForm e v → (j : ℕ) → j < length (entries_of v) → count (content_of v) (entry_at (entries_of v) j).0 ≡ (entry_at (entries_of v) j).1
count_there e v form j lt = count_listed_in v (entry_at (entries_of v) j).0 ∙ listed_at (entries_of v) j (listed_in_form e v form).rising lt

-- ---- whether at least they are there

listed_within : (c : Content) (es : Entries) → ((j : ℕ) → j < length es → (entry_at es j).1 ≤ count c (entry_at es j).0) → (k : List ℕ) → listed es k ≤ count c k
listed_within c [] each k = omega arith
listed_within c (e ∷ es) each k = elim (eq_by_cmp key_cmp k e.0) as (λ b. eq_by_cmp key_cmp k e.0 ≡ b → unwrap_or (cond b (Some e.1) (find key_cmp k es)) 0 ≤ count c k) [
  | true ↦ λ t. subst (λ q. e.1 ≤ count c q) (sym (same_key k e.0 t)) (each 0 (omega arith))
  | false ↦ λ t. listed_within c es (λ j lt. each (suc j) (omega (arith, lt))) k
] refl

pub has_all : (c : Content) (v : Value) → ((j : ℕ) → j < length (entries_of v) → (entry_at (entries_of v) j).1 ≤ count c (entry_at (entries_of v) j).0) → Contains c (content_of v)
has_all c v each = record { each = λ k. subst (λ n. n ≤ count c k) (sym (count_listed_in v k)) (listed_within c (entries_of v) each k) }

-- the element at that index is less than the value has
pub lacks_one : (e : Edition) (c : Content) (v : Value) (i : ℕ) (k : List ℕ) (n : ℕ) → HasValueForm e v → i < length (entries_of v) → (k, n) ≡ entry_at (entries_of v) i → count c k < n → Contains c (content_of v) → ⊥
lacks_one e c v i k n form lt at less has =
    let there = count_there e v form i lt in
    let here = has.each (entry_at (entries_of v) i).0 in
    absurd (omega (arith, there, here, less, ap (λ (p : List ℕ × ℕ). count c p.0) at, ap (λ (p : List ℕ × ℕ). p.1) at))

pub other_one : (e : Edition) (c : Content) (v : Value) (i : ℕ) (k : List ℕ) (n : ℕ) → HasValueForm e v → i < length (entries_of v) → (k, n) ≡ entry_at (entries_of v) i → count c k ≢ n → c ≡ content_of v → ⊥
other_one e c v i k n form lt at other is =
    other (ap (λ (p : List ℕ × ℕ). count c p.0) at ∙ ap (λ (d : Content). count d (entry_at (entries_of v) i).0) is ∙ count_there e v form i lt ∙ sym (ap (λ (p : List ℕ × ℕ). p.1) at))

-- ---- whether exactly they are there

find-lookup : (q : List ℕ) (es : Entries) → lookup (eq_by_cmp key_cmp q) es ≡ find key_cmp q es
find-lookup q [] = refl
find-lookup q (e ∷ es) = ap (cond (eq_by_cmp key_cmp q e.0) (Some e.1)) (find-lookup q es)

-- the place of what is found
place_found : (es : Entries) (k : List ℕ) (n : ℕ) → find key_cmp k es ≡ Some n → (j : ℕ) × (j < length es) × ((entry_at es j).0 ≡ k) × ((entry_at es j).1 ≡ n)
place_found [] k n is = absurd (never is)
  where
    never : ◌≡◌ {A = Option ℕ} None (Some n) → ⊥
    never e = cc
place_found (e ∷ es) k n is = elim (eq_by_cmp key_cmp k e.0) as (λ b. eq_by_cmp key_cmp k e.0 ≡ b → cond b (Some e.1) (find key_cmp k es) ≡ Some n → (j : ℕ) × (j < length (e ∷ es)) × ((entry_at (e ∷ es) j).0 ≡ k) × ((entry_at (e ∷ es) j).1 ≡ n)) [
  | true ↦ λ t here. (0, omega arith, sym (same_key k e.0 t), same_some here)
  | false ↦ λ t there. let it = place_found es k n there in (suc it.0, omega (arith, it.1), it.2, it.3)
] refl is
  where
    same_some : ◌≡◌ {A = Option ℕ} (Some e.1) (Some n) → e.1 ≡ n
    same_some h = cc

place_of_key : (es : Entries) (q : List ℕ) → list_any (eq_by_cmp key_cmp q) (keys_of es) ≡ true → (j : ℕ) × (j < length es) × (q ≡ (entry_at es j).0)
place_of_key [] q h = absurd (false≢true h)
place_of_key (e ∷ es) q h = elim (or_cases (eq_by_cmp key_cmp q e.0) (list_any (eq_by_cmp key_cmp q) (keys_of es)) h) [
  | inl here ↦ (0, omega arith, same_key q e.0 here)
  | inr there ↦ let it = place_of_key es q there in (suc it.0, omega (arith, it.1), it.2)
]

apart : (es : Entries) (k : List ℕ) → find key_cmp k es ≡ None → AllByRecursion (λ y. eq_by_cmp key_cmp k y ≡ false) (keys_of es)
apart [] k is = tt
apart (e ∷ es) k is = elim (eq_by_cmp key_cmp k e.0) as (λ b. eq_by_cmp key_cmp k e.0 ≡ b → cond b (Some e.1) (find key_cmp k es) ≡ None → AllByRecursion (λ y. eq_by_cmp key_cmp k y ≡ false) (keys_of (e ∷ es))) [
  | true ↦ λ t here. absurd (never here)
  | false ↦ λ t there. (t, apart es k there)
] refl is
  where
    never : ◌≡◌ {A = Option ℕ} (Some e.1) None → ⊥
    never h = cc

some_if_counted : (rows : Entries) (q : List ℕ) → 0 < count (of_entries rows) q → IsSome (lookup (eq_by_cmp key_cmp q) rows)
some_if_counted rows q some = elim (find key_cmp q rows) as (λ o. find key_cmp q rows ≡ o → IsSome (lookup (eq_by_cmp key_cmp q) rows)) [
  | None ↦ λ is. absurd (omega (arith, some, count-of_entries rows q, ap (λ o. unwrap_or o 0) is))
  | Some n ↦ λ is. subst IsSome (sym (find-lookup q rows ∙ is)) refl
] refl

module _ (rows : Entries) (es : Entries) (are : AreListed es) (as_long : length rows ≡ length es) (none_zero : (k : List ℕ) → find key_cmp k rows ≢ Some 0) (each : (j : ℕ) → j < length es → count (of_entries rows) (entry_at es j).0 ≡ (entry_at es j).1) where
  among : (k : List ℕ) (m : ℕ) → find key_cmp k rows ≡ Some m → (q : List ℕ) → list_any (eq_by_cmp key_cmp q) (k ∷ keys_of es) ≡ true → IsSome (lookup (eq_by_cmp key_cmp q) rows)
  among k m is q any = elim (or_cases (eq_by_cmp key_cmp q k) (list_any (eq_by_cmp key_cmp q) (keys_of es)) any) [
    | inl here ↦ subst IsSome (sym (find-lookup q rows ∙ ap (λ x. find key_cmp x rows) (same_key q k here) ∙ is)) refl
    | inr there ↦
        let it = place_of_key es q there in
        some_if_counted rows q (omega (arith, ap (count (of_entries rows)) it.2, each it.0 it.1, are.some it.0 it.1))
  ]

  none_else : (k : List ℕ) → find key_cmp k es ≡ None → find key_cmp k rows ≡ None
  none_else k is = elim (find key_cmp k rows) as (λ o. find key_cmp k rows ≡ o → o ≡ None) [
    | None ↦ λ h. refl
    | Some m ↦ λ h.
        let many = length-le_from_keys (eq_by_cmp_equiv nat_list_cmp_total) (k ∷ keys_of es) rows (IsDistinct-cons (eq_by_cmp key_cmp) k (keys_of es) (apart es k is) are.distinct) (among k m h) in
        absurd (omega (arith, many, as_long, length-map es (λ (e : List ℕ × ℕ). e.0)))
  ] refl

  pub has_just : of_entries rows ≡ of_entries es
  has_just = same_content _ _ (λ k. elim (find key_cmp k es) as (λ o. find key_cmp k es ≡ o → count (of_entries rows) k ≡ count (of_entries es) k) [
    | None ↦ λ is. count-of_entries rows k ∙ ap (λ o. unwrap_or o 0) (none_else k is) ∙ sym (count-of_entries es k ∙ ap (λ o. unwrap_or o 0) is)
    | Some n ↦ λ is.
        let it = place_found es k n is in
        ap (count (of_entries rows)) (sym it.2) ∙ each it.0 it.1 ∙ it.3 ∙ sym (count-of_entries es k ∙ ap (λ o. unwrap_or o 0) is)
  ] refl)

-- what is there is as long as what it is
pub length_found : (rows es : Entries) → AreListed es → ((k : List ℕ) → find key_cmp k rows ≢ Some 0) → IsDistinct (eq_by_cmp key_cmp) (keys_of rows) → of_entries rows ≡ of_entries es → length rows ≡ length es
length_found rows es are none_zero distinct is =
    let there = length-le_from_keys (eq_by_cmp_equiv nat_list_cmp_total) (keys_of es) rows are.distinct in_rows in
    let back = length-le_from_keys (eq_by_cmp_equiv nat_list_cmp_total) (keys_of rows) es distinct in_es in
    omega (arith, there, back, length-map es (λ (e : List ℕ × ℕ). e.0), length-map rows (λ (e : List ℕ × ℕ). e.0))
  where
    never : (m : ℕ) → ◌≡◌ {A = Option ℕ} (Some m) None → ⊥
    never m e = cc

    positive : (n : ℕ) → n ≢ 0 → 0 < n
    positive zero other = absurd (other refl)
    positive (suc n) other = omega arith

    lost : (fs : Entries) (q : List ℕ) → list_any (eq_by_cmp key_cmp q) (keys_of fs) ≡ true → find key_cmp q fs ≡ None → ⊥
    lost [] q h none = false≢true h
    lost (f ∷ fs) q h none = elim (eq_by_cmp key_cmp q f.0) as (λ b. (b || list_any (eq_by_cmp key_cmp q) (keys_of fs)) ≡ true → cond b (Some f.1) (find key_cmp q fs) ≡ None → ⊥) [
      | true ↦ λ g e. never f.1 e
      | false ↦ λ g e. lost fs q g e
    ] h none

    in_rows : (q : List ℕ) → list_any (eq_by_cmp key_cmp q) (keys_of es) ≡ true → IsSome (lookup (eq_by_cmp key_cmp q) rows)
    in_rows q any =
        let it = place_of_key es q any in
        some_if_counted rows q (omega (arith, ap (λ c. count c q) is, count-of_entries es q, ap (listed es) it.2, listed_at es it.0 are.rising it.1, are.some it.0 it.1))

    in_es : (q : List ℕ) → list_any (eq_by_cmp key_cmp q) (keys_of rows) ≡ true → IsSome (lookup (eq_by_cmp key_cmp q) es)
    in_es q any =
        let it = place_of_key rows q any in
        elim (find key_cmp q rows) as (λ o. find key_cmp q rows ≡ o → IsSome (lookup (eq_by_cmp key_cmp q) es)) [
          | None ↦ λ none. absurd (lost rows q any none)
          | Some n ↦ λ found. some_if_counted es q (omega (arith, ap (λ c. count c q) is, count-of_entries rows q, ap (λ o. unwrap_or o 0) found, positive n (λ z. none_zero q (found ∙ ap Some z))))
        ] refl

-- ---- one after another

module _ (es : Entries) (i : ℕ) (k : List ℕ) (n : ℕ) (lt : i < length es) (at : (k, n) ≡ entry_at es i) where
  next : drop i es ≡ (k, n) ∷ drop (i + 1) es
  next = drop_more es i ([], 0) lt ∙ ap (λ (e : List ℕ × ℕ). e ∷ drop (i + 1) es) (sym at)

  pub tally_next : (q : List ℕ) → tally (drop i es) q ≡ at_key q k n + tally (drop (i + 1) es) q
  tally_next q = ap (λ fs. tally fs q) next

  pub own_tally : tally (drop i es) k ≡ n + tally (drop (i + 1) es) k
  own_tally = omega (arith, tally_next k, at_own_key k n)

  pub add_one : (c : Content) (total : List ℕ → ℕ) (more : ℕ) → more ≡ count c k + n → ((q : List ℕ) → count c q + tally (drop i es) q ≡ total q) → (q : List ℕ) → count (put counts c k more) q + tally (drop (i + 1) es) q ≡ total q
  add_one c total more is each q = subst (λ m. m + tally (drop (i + 1) es) q ≡ total q) (sym (at-put counts c k more q)) (elim (eq_by_cmp key_cmp q k) as (λ b. eq_by_cmp key_cmp q k ≡ b → count c q + (cond b n 0 + tally (drop (i + 1) es) q) ≡ total q → cond b more (count c q) + tally (drop (i + 1) es) q ≡ total q) [
    | true ↦ λ t h. omega (arith, h, is, ap (count c) (same_key q k t))
    | false ↦ λ t h. omega (arith, h)
  ] refl (ap (λ m. count c q + m) (sym (tally_next q)) ∙ each q))

  pub take_one : (c : Content) (total : List ℕ → ℕ) (left : ℕ) → left ≡ count c k - n → ((q : List ℕ) → count c q - tally (drop i es) q ≡ total q) → (q : List ℕ) → count (put counts c k left) q - tally (drop (i + 1) es) q ≡ total q
  take_one c total left is each q = subst (λ m. m - tally (drop (i + 1) es) q ≡ total q) (sym (at-put counts c k left q)) (elim (eq_by_cmp key_cmp q k) as (λ b. eq_by_cmp key_cmp q k ≡ b → count c q - (cond b n 0 + tally (drop (i + 1) es) q) ≡ total q → cond b left (count c q) - tally (drop (i + 1) es) q ≡ total q) [
    | true ↦ λ t h. omega (arith, h, is, ap (count c) (same_key q k t))
    | false ↦ λ t h. omega (arith, h)
  ] refl (ap (λ m. count c q - m) (sym (tally_next q)) ∙ each q))

  pub exceed_one : (c others : Content) (most over : ℕ) → over ≡ count others k - most → (q : List ℕ) → (count c q ≡ count others q - most) ⊎ (find key_cmp q (drop i es) ≢ None) → (count (put counts c k over) q ≡ count others q - most) ⊎ (find key_cmp q (drop (i + 1) es) ≢ None)
  exceed_one c others most over is q each = subst (λ m. (m ≡ count others q - most) ⊎ (find key_cmp q (drop (i + 1) es) ≢ None)) (sym (at-put counts c k over q)) (elim (eq_by_cmp key_cmp q k) as (λ b. eq_by_cmp key_cmp q k ≡ b → (count c q ≡ count others q - most) ⊎ (cond b (Some n) (find key_cmp q (drop (i + 1) es)) ≢ None) → (cond b over (count c q) ≡ count others q - most) ⊎ (find key_cmp q (drop (i + 1) es) ≢ None)) [
    | true ↦ λ t h. inl (is ∙ ap (λ x. count others x - most) (sym (same_key q k t)))
    | false ↦ λ t h. h
  ] refl (subst (λ fs. (count c q ≡ count others q - most) ⊎ (find key_cmp q fs ≢ None)) next each))

  -- an element that isn't listed stays as it is
  pub stays_one : IsRising es → (c : Content) (m : ℕ) (q : List ℕ) → find key_cmp q es ≡ None → count (put counts c k m) q ≡ count c q
  stays_one rising c m q none = at-put counts c k m q ∙ elim (eq_by_cmp key_cmp q k) as (λ b. eq_by_cmp key_cmp q k ≡ b → cond b m (count c q) ≡ count c q) [
    | true ↦ λ t. absurd (never (sym (found_at es i rising lt) ∙ ap (λ x. find key_cmp x es) (ap (λ (e : List ℕ × ℕ). e.0) (sym at) ∙ sym (same_key q k t)) ∙ none))
    | false ↦ λ t. refl
  ] refl
    where
      never : ◌≡◌ {A = Option ℕ} (Some (entry_at es i).1) None → ⊥
      never h = cc

-- ---- after the last of them

pub none_left : (es : Entries) (i : ℕ) (k : List ℕ) → length es ≤ i → tally (drop i es) k ≡ 0
none_left es i k past = ap (λ fs. tally fs k) (drop_all i es past)

pub added_all : (e : Edition) (v : Value) (form : HasValueForm e v) (i : ℕ) (c old : Content) → length (entries_of v) ≤ i → ((q : List ℕ) → count c q + tally (drop i (entries_of v)) q ≡ count old q + tally (entries_of v) q) → c ≡ sum old (content_of v)
added_all e v form i c old past each = same_content _ _ (λ k. omega (arith, each k, none_left (entries_of v) i k past, count_tally e v form k, count-sum old (content_of v) k))

pub taken_all : (e : Edition) (v : Value) (form : HasValueForm e v) (i : ℕ) (c old : Content) → length (entries_of v) ≤ i → ((q : List ℕ) → count c q - tally (drop i (entries_of v)) q ≡ count old q - tally (entries_of v) q) → c ≡ difference old (content_of v)
taken_all e v form i c old past each = same_content _ _ (λ k. omega (arith, each k, none_left (entries_of v) i k past, count_tally e v form k, count-difference old (content_of v) k))

pub exceed_last : (es : Entries) (i : ℕ) (c others : Content) (most : ℕ) → length es ≤ i → (q : List ℕ) → (count c q ≡ count others q - most) ⊎ (find key_cmp q (drop i es) ≢ None) → count c q ≡ count others q - most
exceed_last es i c others most past q each = elim each [
  | inl is ↦ is
  | inr found ↦ absurd (found (ap (λ fs. find key_cmp q fs) (drop_all i es past)))
]

-- an element is listed where there are some of it, and not where there are none
pub listed_some : (v : Value) (k : List ℕ) → count (content_of v) k ≢ 0 → find key_cmp k (entries_of v) ≢ None
listed_some v k some is = some (count_listed_in v k ∙ ap (λ o. unwrap_or o 0) is)

pub listed_none : (e : Edition) (v : Value) → HasValueForm e v → (k : List ℕ) → count (content_of v) k ≡ 0 → find key_cmp k (entries_of v) ≡ None
listed_none e v form k none = elim (find key_cmp k (entries_of v)) as (λ o. find key_cmp k (entries_of v) ≡ o → o ≡ None) [
  | None ↦ λ is. refl
  | Some n ↦ λ is.
      let it = place_found (entries_of v) k n is in
      absurd (omega (arith, none, count_listed_in v k, ap (λ o. unwrap_or o 0) is, it.3, (listed_in_form e v form).some it.0 it.1))
] refl

-- ---- beside the map that contents are kept in

apart_texts : (k : String Global) (es : List (String Global × ℕ)) → AllByRecursion (λ y. eq_by_cmp string_cmp k y ≡ false) (keys_of es) → AllByRecursion (λ y. eq_by_cmp key_cmp (string_bytes k) y ≡ false) (keys_of (listing es))
apart_texts k [] h = tt
apart_texts k (e ∷ es) h = (h.0, apart_texts k es h.1)

distinct_texts : (es : List (String Global × ℕ)) → IsDistinct (eq_by_cmp string_cmp) (keys_of es) → IsDistinct (eq_by_cmp key_cmp) (keys_of (listing es))
distinct_texts [] h = no_keys
distinct_texts (e ∷ es) h = IsDistinct-cons (eq_by_cmp key_cmp) (string_bytes e.0) (keys_of (listing es)) (apart_texts e.0 es (IsDistinct-head (eq_by_cmp string_cmp) e.0 (keys_of es) h)) (distinct_texts es (IsDistinct-tail (eq_by_cmp string_cmp) e.0 (keys_of es) h))

module _ (rows : List (String Global × ℕ)) (c : Content) (e : Edition) (v : Value) (form : HasValueForm e v) (some : AreSome rows) (held : held_in rows ≡ c) where
  pub just_these : length rows ≡ length (entries_of v) → ((j : ℕ) → j < length (entries_of v) → count c (entry_at (entries_of v) j).0 ≡ (entry_at (entries_of v) j).1) → c ≡ content_of v
  just_these as_long each =
      sym held
      ∙ has_just (listing rows) (entries_of v) (listed_in_form e v form) (length-listing rows ∙ as_long) some.some (λ j lt. ap (λ (d : Content). count d (entry_at (entries_of v) j).0) held ∙ each j lt)
      ∙ sym (content_listed v)

  pub not_as_long : IsStrictlySortedBy string_cmp (keys_of rows) → length rows ≢ length (entries_of v) → c ≡ content_of v → ⊥
  not_as_long ordered other is =
      other (sym (length-listing rows) ∙ length_found (listing rows) (entries_of v) (listed_in_form e v form) some.some (distinct_texts rows (IsDistinct-from_sorted string_cmp (keys_of rows) ordered)) (held ∙ is ∙ content_listed v))
