-- An entry that is put in its place, or taken out with it.
use Rattle.std.proofs.Common.{◌≡◌, ℕ, zero, suc, ◌+◌, ◌-◌, ◌<◌, ◌≤◌, ◌++◌, Bool, true, false, cond, List, [], ◌∷◌, length, get_or, set, take, drop, refl, sym, ap, subst, ◌∙◌, arith}
use Rattle.std.proofs.lemmas.List.{take-append-drop}
use Rattle.std.proofs.lemmas.List.Elements.{All-append, All-cons, All-drop, All-head, All-set, All-tail, All-take}
use lib.Dec.{T}
use Rattle.std.specs.List.{All, insert, remove}
use Rattle.std.specs.Ordering.{is_lt, eq_by_cmp}
use Rattle.std.specs.declared.cmp.Ordering.TheVariants.{Less}
use Rattle.std.specs.FinMap as fin
use Rattle.std.specs.FinMap.Entries.{below_all}
use Rattle.amount_math.specs.Totals.{first, second, weighed}
use Rattle.amount_math.specs.Content.{Content, Contains, key_cmp, entries, of_entries, of_entries-entries, of_entries-nil, nothing, count, count-difference, difference, sum, same_content}
use Rattle.amount_math.specs.Entries.{Entries, IsEntry, IsGap, IsRising, AreEntries, entry_at, at_key, tally, most_of_key}
use Rattle.amount_math.specs.ValueView.{keys_of}
use Rattle.amount_math.proofs.Listed.{both, tally-append, below_rest, rising_rest, count-tally, entries-of_entries, no_entries, read_entry, tied}
use Rattle.amount_math.proofs.Poured.{emptied}
use Rattle.amount_math.proofs.Searched.{tally_at}
use Rattle.amount_math.proofs.Together.{count_of_sum, each_contained, keys_of_sum, new_in, new_one}
use Rattle.amount_math.proofs.Lowered.{rising_set, tally_set}

abbrev Entry : Type 0
Entry = List ℕ × ℕ

-- ---- how many keys

pub keys_of_entries : (es : Entries) → AreEntries es → keys_of (of_entries es) ≡ length es
keys_of_entries es are = fin.len-entries (of_entries es).held ∙ ap (λ (xs : Entries). length xs) (entries-of_entries es are)

pub keys_of-nothing : keys_of nothing ≡ 0
keys_of-nothing = fin.len-entries nothing.held ∙ ap (λ (xs : Entries). length xs) no_entries

-- what has no key is nothing
pub no_keys : (c : Content) → keys_of c ≤ 0 → c ≡ nothing
no_keys c none = sym (of_entries-entries c) ∙ ap of_entries (emptied (entries c) (omega (arith, none, fin.len-entries c.held))) ∙ of_entries-nil

-- ---- a key in its place

less_is : (a b : List ℕ) → key_cmp a b ≡ Less → T (is_lt (key_cmp a b))
less_is a b e = subst (λ o. T (is_lt o)) (sym e) tt

below_each : (k : List ℕ) (es : Entries) → ((j : ℕ) → j < length es → key_cmp k (entry_at es j).0 ≡ Less) → T (below_all key_cmp k es)
below_each k [] h = tt
below_each k (e ∷ es) h = both (is_lt (key_cmp k e.0)) _ (less_is k e.0 (h 0 (omega arith))) (below_each k es (λ j lt. h (suc j) (omega (arith, lt))))

below_inserted : (k : List ℕ) (es : Entries) (i : ℕ) (e : Entry) → key_cmp k e.0 ≡ Less → T (below_all key_cmp k es) → T (below_all key_cmp k (insert es i e))
below_inserted k [] zero e lt h = both (is_lt (key_cmp k e.0)) _ (less_is k e.0 lt) h
below_inserted k [] (suc i) e lt h = both (is_lt (key_cmp k e.0)) _ (less_is k e.0 lt) h
below_inserted k (x ∷ es) zero e lt h = both (is_lt (key_cmp k e.0)) _ (less_is k e.0 lt) h
below_inserted k (x ∷ es) (suc i) e lt h = both (is_lt (key_cmp k x.0)) _ (first _ (below_all key_cmp k es) h) (below_inserted k es i e lt (second (is_lt (key_cmp k x.0)) _ h))

rising_inserted : (es : Entries) (i : ℕ) (e : Entry) → IsRising es → IsGap es e.0 i → IsRising (insert es i e)
rising_inserted [] zero e h gap = tt
rising_inserted [] (suc i) e h gap = tt
rising_inserted (x ∷ es) zero e h gap = both (below_all key_cmp e.0 (x ∷ es)) _ (below_each e.0 (x ∷ es) (λ j lt. gap.after j (omega arith) lt)) h
rising_inserted (x ∷ es) (suc i) e h gap = both (below_all key_cmp x.0 (insert es i e)) _
    (below_inserted x.0 es i e (gap.before 0 (omega arith)) (below_rest x es h))
    (rising_inserted es i e (rising_rest x es h) (record {
      within = omega (arith, gap.within);
      before = λ j lt. gap.before (suc j) (omega (arith, lt));
      after = λ j le lt. gap.after (suc j) (omega (arith, le)) (omega (arith, lt));
    }))

pub are_inserted : (es : Entries) (i : ℕ) (e : Entry) → AreEntries es → IsEntry e → IsGap es e.0 i → AreEntries (insert es i e)
are_inserted es i e are entry gap = record {
  rising = rising_inserted es i e are.rising gap;
  each = All-append IsEntry (take i es) (e ∷ drop i es) (All-take IsEntry i es are.each) (All-cons IsEntry e (drop i es) entry (All-drop IsEntry i es are.each));
}

tally_parts : (es : Entries) (i : ℕ) (k : List ℕ) → tally (take i es) k + tally (drop i es) k ≡ tally es k
tally_parts es i k = sym (tally-append (take i es) (drop i es) k) ∙ ap (λ (xs : Entries). tally xs k) (take-append-drop i es)

pub tally_inserted : (es : Entries) (i : ℕ) (e : Entry) (k : List ℕ) → tally (insert es i e) k ≡ tally es k + at_key k e.0 e.1
tally_inserted es i e k = omega (arith, tally-append (take i es) (e ∷ drop i es) k, tally_parts es i k)

-- ---- a count that is raised or lowered

at_key-plus : (k q : List ℕ) (m n : ℕ) → at_key k q (m + n) ≡ at_key k q m + at_key k q n
at_key-plus k q m n = split (eq_by_cmp key_cmp k q)
  where
    split : (b : Bool) → cond b (m + n) 0 ≡ cond b m 0 + cond b n 0
    split true = refl
    split false = omega arith

at_key-minus : (k q : List ℕ) (m n : ℕ) → n ≤ m → at_key k q (m - n) + at_key k q n ≡ at_key k q m
at_key-minus k q m n le = omega (arith, at_key-plus k q (m - n) n, ap (at_key k q) (back m n le))
  where
    back : (m n : ℕ) → n ≤ m → (m - n) + n ≡ m
    back m n le = omega (arith, le)

module _ (es : Entries) (at : ℕ) (are : AreEntries es) (here : at < length es) where
  module _ (e : Entry) (is : (entry_at es at).0 ≡ e.0) where
    pub are_raised : tally es e.0 + e.1 ≤ most_of_key → AreEntries (set es at ((entry_at es at).0, (entry_at es at).1 + e.1))
    are_raised within =
        let entry = are.each at ([], 0) here in
        record {
          rising = rising_set es at _ are.rising;
          each = All-set IsEntry es at _ (record {
            key = entry.key;
            some = omega (arith, entry.some);
            bounded = omega (arith, within, tally_at es at are.rising here, ap (tally es) is);
          }) are.each;
        }

    pub tally_raised : (k : List ℕ) → tally (set es at ((entry_at es at).0, (entry_at es at).1 + e.1)) k ≡ tally es k + at_key k e.0 e.1
    tally_raised k = omega (arith, tally_set es at ((entry_at es at).1 + e.1) k here, at_key-plus k (entry_at es at).0 (entry_at es at).1 e.1, ap (λ q. at_key k q e.1) is)

  module _ (n : ℕ) (less : n < (entry_at es at).1) where
    pub are_lowered : AreEntries (set es at ((entry_at es at).0, (entry_at es at).1 - n))
    are_lowered =
        let entry = are.each at ([], 0) here in
        record {
          rising = rising_set es at _ are.rising;
          each = All-set IsEntry es at _ (record { key = entry.key; some = omega (arith, less); bounded = omega (arith, entry.bounded) }) are.each;
        }

    pub tally_lowered : (k : List ℕ) → tally (set es at ((entry_at es at).0, (entry_at es at).1 - n)) k + at_key k (entry_at es at).0 n ≡ tally es k
    tally_lowered k = omega (arith, tally_set es at ((entry_at es at).1 - n) k here, at_key-minus k (entry_at es at).0 (entry_at es at).1 n (omega (arith, less)))

-- ---- a place that goes

below_removed : (k : List ℕ) (es : Entries) (i : ℕ) → T (below_all key_cmp k es) → T (below_all key_cmp k (remove es i))
below_removed k [] zero h = tt
below_removed k [] (suc i) h = tt
below_removed k (x ∷ es) zero h = second (is_lt (key_cmp k x.0)) _ h
below_removed k (x ∷ es) (suc i) h = both (is_lt (key_cmp k x.0)) _ (first _ (below_all key_cmp k es) h) (below_removed k es i (second (is_lt (key_cmp k x.0)) _ h))

rising_removed : (es : Entries) (i : ℕ) → IsRising es → IsRising (remove es i)
rising_removed [] zero h = tt
rising_removed [] (suc i) h = tt
rising_removed (x ∷ es) zero h = rising_rest x es h
rising_removed (x ∷ es) (suc i) h = both (below_all key_cmp x.0 (remove es i)) _ (below_removed x.0 es i (below_rest x es h)) (rising_removed es i (rising_rest x es h))

pub are_removed : (es : Entries) (i : ℕ) → AreEntries es → AreEntries (remove es i)
are_removed es i are = record {
  rising = rising_removed es i are.rising;
  each = All-append IsEntry (take i es) (drop (suc i) es) (All-take IsEntry i es are.each) (All-drop IsEntry (suc i) es are.each);
}

pub tally_removed : (es : Entries) (i : ℕ) (k : List ℕ) → i < length es → tally (remove es i) k + at_key k (entry_at es i).0 (entry_at es i).1 ≡ tally es k
tally_removed [] i k lt = absurd (omega (arith, lt))
tally_removed (x ∷ es) zero k lt = omega arith
tally_removed (x ∷ es) (suc i) k lt = omega (arith, tally_removed es i k (omega (arith, lt)))

-- ---- one after another, the last first

module _ (es rest : Entries) (e : Entry) (are : AreEntries es) (more : AreEntries (rest ++ e ∷ [])) where
  rising_before : (xs : Entries) → IsRising (xs ++ e ∷ []) → IsRising xs
  rising_before [] h = tt
  rising_before (x ∷ xs) h = both (below_all key_cmp x.0 xs) _ (below_before x.0 xs (below_rest x (xs ++ e ∷ []) h)) (rising_before xs (rising_rest x (xs ++ e ∷ []) h))
    where
      below_before : (k : List ℕ) (ys : Entries) → T (below_all key_cmp k (ys ++ e ∷ [])) → T (below_all key_cmp k ys)
      below_before k [] b = tt
      below_before k (y ∷ ys) b = both (is_lt (key_cmp k y.0)) _ (first _ (below_all key_cmp k (ys ++ e ∷ [])) b) (below_before k ys (second (is_lt (key_cmp k y.0)) _ b))

  -- the last is an entry, and so are those before it
  pub last_is : IsEntry e
  last_is = All-head IsEntry e [] (after rest more.each)
    where
      after : (xs : Entries) → All IsEntry (xs ++ e ∷ []) → All IsEntry (e ∷ [])
      after [] all = all
      after (x ∷ xs) all = after xs (All-tail IsEntry x (xs ++ e ∷ []) all)

  pub rest_are : AreEntries rest
  rest_are = record { rising = rising_before rest more.rising; each = before rest more.each }
    where
      before : (xs : Entries) → All IsEntry (xs ++ e ∷ []) → All IsEntry xs
      before [] all = λ i d lt. absurd (omega (arith, lt))
      before (x ∷ xs) all = All-cons IsEntry x xs (All-head IsEntry x (xs ++ e ∷ []) all) (before xs (All-tail IsEntry x (xs ++ e ∷ []) all))

  -- a new key finds room
  pub room_for_last : (room : ℕ) → keys_of (sum (of_entries es) (of_entries (rest ++ e ∷ []))) ≤ room → tally es e.0 ≡ 0 → length es < room
  room_for_last room h none = omega (
    arith,
    h,
    keys_of_sum es (rest ++ e ∷ []) are more,
    weighed-append rest,
    new_one (of_entries es) e.0 e.1 (count-tally es are e.0 ∙ none),
  )
    where
      weighed-append : (xs : Entries) → weighed (new_in (of_entries es)) (xs ++ e ∷ []) ≡ weighed (new_in (of_entries es)) xs + new_in (of_entries es) e.0 e.1
      weighed-append [] = omega arith
      weighed-append (x ∷ xs) = omega (arith, weighed-append xs)

  pub last_within : (most : ℕ) → ((k : List ℕ) → count (sum (of_entries es) (of_entries (rest ++ e ∷ []))) k ≤ most) → tally es e.0 + e.1 ≤ most
  last_within most within = omega (
    arith,
    within e.0,
    count_of_sum es (rest ++ e ∷ []) are more e.0,
    tally-append rest (e ∷ []) e.0,
    ap (λ b. cond b e.1 0) (tied e.0),
  )

  -- the sum stays the same as the last is put in
  pub sum_stays : (new : Entries) → AreEntries new → ((k : List ℕ) → tally new k ≡ tally es k + at_key k e.0 e.1) → sum (of_entries new) (of_entries rest) ≡ sum (of_entries es) (of_entries (rest ++ e ∷ []))
  sum_stays new new_are counts = same_content _ _ (λ k. omega (
    arith,
    counts k,
    count_of_sum new rest new_are rest_are k,
    count_of_sum es (rest ++ e ∷ []) are more k,
    tally-append rest (e ∷ []) k,
  ))

-- ---- a part of one key

tally_one : (part : Entries) (e : Entry) (k : List ℕ) → 1 ≤ length part → length part < 2 → e ≡ get_or part 0 e → tally part k ≡ at_key k e.0 e.1
tally_one [] e k some few is = absurd (omega (arith, some))
tally_one (x ∷ []) e k some few is = omega (arith, ap (λ (y : Entry). at_key k y.0 y.1) is)
tally_one (x ∷ y ∷ part) e k some few is = absurd (omega (arith, few))

module _ (es part : Entries) (e : Entry) (are : AreEntries es) (part_are : AreEntries part) (some : 1 ≤ length part) (is : e ≡ get_or part 0 e) where
  pub enough_of_one : Contains (of_entries es) (of_entries part) → e.1 ≤ tally es e.0
  enough_of_one has = subst (λ (x : Entry). x.1 ≤ tally es x.0) (read_entry part 0 e (omega (arith, some)) is) (each_contained es part are part_are has 0 (omega (arith, some)))

  pub left_of_one : length part < 2 → (new : Entries) → AreEntries new → ((k : List ℕ) → tally new k + at_key k e.0 e.1 ≡ tally es k) → of_entries new ≡ difference (of_entries es) (of_entries part)
  left_of_one few new new_are counts = same_content _ _ (λ k. omega (
    arith,
    counts k,
    tally_one part e k some few is,
    count-tally new new_are k,
    count-tally es are k,
    count-tally part part_are k,
    count-difference (of_entries es) (of_entries part) k,
  ))
