-- Two lists of entries together: their counts, their keys, and the first key of which there are too many.
use Rattle.std.proofs.Common.{inl, inr, ◌≡◌, ◌≢◌, ℕ, zero, suc, ◌+◌, ◌<◌, ◌≤◌, ◌++◌, Bool, true, false, cond, Option, Some, None, List, [], ◌∷◌, length, get_or, take, refl, sym, ap, subst, ◌∙◌, arith}
use Rattle.std.proofs.lemmas.Bool.{cases_order}
use Rattle.std.proofs.lemmas.List.{take_more}
use Rattle.std.proofs.lemmas.List.Elements.{All-head, All-tail, All-cons, All-nil}
use lib.Dec.{T}
use Rattle.std.specs.Option.{unwrap_or, is_some}
use Rattle.std.specs.List.{All}
use Rattle.std.specs.Ordering.{eq_by_cmp}
use Rattle.std.specs.declared.cmp.Ordering.TheVariants.{Less, Equal, Greater}
use Rattle.std.specs.Cmp.{tied_itself}
use Rattle.std.specs.FinMap as fin
use Rattle.amount_math.specs.Sparse.{put, put_by, is_something}
use Rattle.amount_math.specs.Totals.{weighed, absent_below}
use Rattle.amount_math.specs.Content.{Content, key_cmp, counts, is_zero, entries, combined, of_entries, count, count-combined, count-sum, count-one_of, one_of, of_entries-one, unit, sum, Contains}
use Rattle.amount_math.specs.Counted.{counted}
use Rattle.amount_math.specs.Entries.{Entries, IsKey, IsEntry, IsRising, AreEntries, entry_at, tally}
use Rattle.amount_math.specs.declared.TooMuch.{TooMuch}
use Rattle.amount_math.specs.declared.Kind.TheVariants.{Bag}
use Rattle.amount_math.specs.ValueView.{IsFirstPast, IsSet, PassesBound, bag_bound, keys_of}
use Rattle.amount_math.proofs.Listed.{rising_rest, entries-of_entries, count-tally, same_key}
use Rattle.amount_math.proofs.Searched.{rises, turned, somewhere, tally_at}

-- ---- weights, an entry at a time

weighed-append : (w : List ℕ → ℕ → ℕ) (xs ys : Entries) → weighed w (xs ++ ys) ≡ weighed w xs + weighed w ys
weighed-append w [] ys = omega arith
weighed-append w (x ∷ xs) ys = omega (arith, weighed-append w xs ys)

pub weighed_more : (w : List ℕ → ℕ → ℕ) (es : Entries) (i : ℕ) (d : List ℕ × ℕ) → i < length es → weighed w (take (i + 1) es) ≡ weighed w (take i es) + w (get_or es i d).0 (get_or es i d).1
weighed_more w es i d lt = ap (weighed w) (take_more es i d lt) ∙ weighed-append w (take i es) (get_or es i d ∷ []) ∙ omega arith

pub counted-of_entries : (es : Entries) → AreEntries es → counted (of_entries es) ≡ weighed (λ k n. n) es
counted-of_entries es are = ap (weighed (λ k n. n)) (entries-of_entries es are)

-- ---- how many keys the sum has

-- 1 for a key of which a content has nothing
abbrev pub new_in : Content → List ℕ → ℕ → ℕ
new_in c k n = cond (is_zero (count c k)) 1 0

pub new_one : (c : Content) (k : List ℕ) (n : ℕ) → count c k ≡ 0 → new_in c k n ≡ 1
new_one c k n e = ap (λ m. cond (is_zero m) 1 0) e

pub not_new : (c : Content) (k : List ℕ) (n : ℕ) → count c k ≢ 0 → new_in c k n ≡ 0
not_new c k n some = of_count (count c k) some
  where
    of_count : (m : ℕ) → m ≢ 0 → ◌≡◌ {A = ℕ} (cond (is_zero m) 1 0) 0
    of_count zero h = absurd (h refl)
    of_count (suc m) h = refl

one_key_more : (m : Content) (k : List ℕ) (o : Option ℕ) → fin.get m.held k ≡ o → cond (is_some o) (keys_of m) (keys_of m + 1) ≡ keys_of m + cond (is_zero (unwrap_or o 0)) 1 0
one_key_more m k None is = refl
one_key_more m k (Some zero) is = absurd (subst (λ o. T (is_something is_zero o)) is (m.listed k))
one_key_more m k (Some (suc n)) is = omega arith

keys_of-put_by : (m : Content) (k : List ℕ) (x : ℕ) (b : Bool) (e : is_zero x ≡ b) → 0 < x → keys_of (put_by counts m k x b e) ≡ keys_of m + new_in m k x
unfolding put_by
keys_of-put_by m k zero b e some = absurd (omega (arith, some))
keys_of-put_by m k (suc x) true e some = absurd (subst T (sym e) tt)
keys_of-put_by m k (suc x) false e some = fin.len-insert counts.total m.held k (suc x) ∙ one_key_more m k (fin.get m.held k) refl

pub keys_of-put : (m : Content) (k : List ℕ) (x : ℕ) → 0 < x → keys_of (put counts m k x) ≡ keys_of m + new_in m k x
unfolding put
keys_of-put m k x some = keys_of-put_by m k x _ refl some

keys_of-combined : (c : Content) (es : Entries) → IsRising es → All IsEntry es → keys_of (combined (λ m n. m + n) c es) ≡ keys_of c + weighed (new_in c) es
keys_of-combined c [] h all = omega arith
keys_of-combined c (e ∷ es) h all =
    let rest = combined (λ m n. m + n) c es in
    let here : count rest e.0 ≡ count c e.0 = count-combined (λ m n. m + n) (λ n. omega arith) c es e.0 ∙ ap (λ o. count c e.0 + unwrap_or o 0) (absent_below (λ k n. n) counts.total counts.same e es h) ∙ omega arith in
    let some : 0 < count c e.0 + e.1 = omega (arith, (All-head IsEntry e es all).some) in
    keys_of-put rest e.0 (count c e.0 + e.1) some
    ∙ ap (λ n. keys_of rest + cond (is_zero n) 1 0) here
    ∙ omega (arith, keys_of-combined c es (rising_rest e es h) (All-tail IsEntry e es all))

module _ (es ms : Entries) (are : AreEntries es) (more : AreEntries ms) where
  pub keys_of_sum : keys_of (sum (of_entries es) (of_entries ms)) ≡ length es + weighed (new_in (of_entries es)) ms
  unfolding sum
  keys_of_sum =
      ap (λ fs. keys_of (combined (λ m n. m + n) (of_entries es) fs)) (entries-of_entries ms more)
      ∙ keys_of-combined (of_entries es) ms more.rising more.each
      ∙ ap (λ n. n + weighed (new_in (of_entries es)) ms) (fin.len-entries (of_entries es).held ∙ ap length (entries-of_entries es are))

  pub count_of_sum : (k : List ℕ) → count (sum (of_entries es) (of_entries ms)) k ≡ tally es k + tally ms k
  count_of_sum k = omega (arith, count-sum (of_entries es) (of_entries ms) k, count-tally es are k, count-tally ms more k)

  -- ---- what one has of the other

  pub contains_each : ((j : ℕ) → j < length ms → (entry_at ms j).1 ≤ tally es (entry_at ms j).0) → Contains (of_entries es) (of_entries ms)
  contains_each h = record { each = λ k. omega (arith, at k, count-tally es are k, count-tally ms more k) }
    where
      at : (k : List ℕ) → tally ms k ≤ tally es k
      at k = elim (somewhere ms k) [
        | inl none ↦ omega (arith, none)
        | inr there ↦ subst (λ q. tally ms q ≤ tally es q) there.2 (omega (arith, tally_at ms there.0 more.rising there.1, h there.0 there.1))
      ]

  pub each_contained : Contains (of_entries es) (of_entries ms) → (j : ℕ) → j < length ms → (entry_at ms j).1 ≤ tally es (entry_at ms j).0
  each_contained has j lt = let k = (entry_at ms j).0 in omega (arith, has.each k, tally_at ms j more.rising lt, count-tally es are k, count-tally ms more k)

  -- ---- the first key of which there are too many

  module _ (most : ℕ) (within : (k : List ℕ) → count (of_entries es) k ≤ most) where
    none_past_before : (i : ℕ) → ((j : ℕ) → j < i → tally es (entry_at ms j).0 + (entry_at ms j).1 ≤ most) → (q : List ℕ) → ((j : ℕ) → (entry_at ms j).0 ≡ q → j < length ms → j < i) → count (sum (of_entries es) (of_entries ms)) q ≤ most
    none_past_before i each q before = elim (somewhere ms q) [
      | inl none ↦ omega (arith, none, count_of_sum q, within q, count-tally es are q)
      | inr at ↦
          let small = subst (λ k. tally es k + tally ms k ≤ most) at.2 (omega (arith, tally_at ms at.0 more.rising at.1, each at.0 (before at.0 at.2 at.1))) in
          omega (arith, small, count_of_sum q)
    ]

    pub none_past : ((j : ℕ) → j < length ms → tally es (entry_at ms j).0 + (entry_at ms j).1 ≤ most) → (k : List ℕ) → count (sum (of_entries es) (of_entries ms)) k ≤ most
    none_past each k = none_past_before (length ms) each k (λ j is lt. lt)

    pub first_is_past : (i : ℕ) → i < length ms → ((j : ℕ) → j < i → tally es (entry_at ms j).0 + (entry_at ms j).1 ≤ most) → most < tally es (entry_at ms i).0 + (entry_at ms i).1 → IsFirstPast most (sum (of_entries es) (of_entries ms)) (entry_at ms i).0
    first_is_past i lt each past = record {
      passes = omega (arith, past, count_of_sum (entry_at ms i).0, tally_at ms i more.rising lt);
      first = λ q over below. absurd (omega (arith, over, none_past_before i each q (λ j is within_ms. earlier q below j is within_ms)));
    }
      where
        not_less : (a b : List ℕ) → key_cmp a b ≡ Less → key_cmp a b ≢ Greater
        not_less a b e f = cc

        earlier : (q : List ℕ) → key_cmp q (entry_at ms i).0 ≡ Less → (j : ℕ) → (entry_at ms j).0 ≡ q → j < length ms → j < i
        earlier q below j is there = elim (cases_order j i) [
          | inl same ↦ absurd (self_less (entry_at ms i).0 (subst (λ n. key_cmp (entry_at ms n).0 (entry_at ms i).0 ≡ Less) same (subst (λ k. key_cmp k (entry_at ms i).0 ≡ Less) (sym is) below)))
          | inr (inl before) ↦ before
          | inr (inr after) ↦ absurd (not_less q (entry_at ms i).0 below (turned (entry_at ms i).0 q Less (subst (λ k. key_cmp (entry_at ms i).0 k ≡ Less) is (rises ms i j more.rising after there))))
        ]
          where
            self_less : (k : List ℕ) → key_cmp k k ≢ Less
            self_less k e = apart (sym (tied_itself counts.total k) ∙ e)
              where
                apart : Equal ≢ Less
                apart e = cc

  -- the first is past a bag's bound
  pub passes_bound : (i : ℕ) (over : TooMuch) → i < length ms → IsFirstPast bag_bound (sum (of_entries es) (of_entries ms)) (entry_at ms i).0 → over.sum ≡ tally es (entry_at ms i).0 + (entry_at ms i).1 → over.bound ≡ bag_bound → PassesBound Bag (sum (of_entries es) (of_entries ms)) over
  passes_bound i over lt past counted bounded = record {
    element = (entry_at ms i).0;
    counted = omega (arith, counted, count_of_sum (entry_at ms i).0, tally_at ms i more.rising lt);
    bounded = bounded;
    passes = past.passes;
    first = past.first;
  }

-- ---- a set of one key

abbrev one_if : Bool → ℕ
one_if b = cond b 1 0

pub one_is_set : (k : List ℕ) → IsKey k → IsSet (one_of k)
one_is_set k key = record {
  keyed = record {
    keys = record { filled = filled k key.filled; short = short };
    few = omega (arith, fin.len-entries (one_of k).held, ap length listed_one);
  };
  fits = record { each = λ q. subst (λ n. n ≤ 1) (sym (count-one_of k q)) (at_most (eq_by_cmp key_cmp q k)) };
}
  where
    listed_one : entries (one_of k) ≡ (k, 1) ∷ []
    listed_one = ap entries (sym (of_entries-one k)) ∙ entries-of_entries ((k, 1) ∷ []) (record { rising = tt; each = All-cons IsEntry (k, 1) [] (record { key = key; some = omega arith; bounded = omega arith }) (All-nil IsEntry) })

    at_most : (b : Bool) → cond b 1 0 ≤ 1
    at_most true = omega arith
    at_most false = omega arith

    filled : (q : List ℕ) → 0 < length q → count (one_of q) unit ≡ 0
    filled [] lt = absurd (omega (arith, lt))
    filled (x ∷ q) lt = count-one_of (x ∷ q) unit

    short : (q : List ℕ) → count (one_of k) q ≢ 0 → length q ≤ 64
    short q some = elim (eq_by_cmp key_cmp q k) as (λ b. eq_by_cmp key_cmp q k ≡ b → length q ≤ 64) [
      | true ↦ λ t. omega (arith, key.short, ap (λ (x : List ℕ). length x) (same_key q k t))
      | false ↦ λ t. absurd (some (count-one_of k q ∙ ap one_if t))
    ] refl
