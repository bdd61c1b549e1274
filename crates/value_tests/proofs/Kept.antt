-- A total beside the map that it is kept in: what the map has at an element, and what putting a count there makes of it.
use Rattle.std.proofs.Common.{◌≡◌, ℕ, zero, suc, ◌+◌, ◌<◌, ◌≤◌, Bool, true, false, cond, Some, Result, Ok, Err, List, [], ◌∷◌, length, map, drop, get_or, refl, sym, ap, subst, ◌∙◌, inl, inr, arith}
use Rattle.std.specs.Prelude.{nat_lt, ◌↔◌, IsTrue, OnOk}
use Rattle.std.specs.List.{find, slice_get}
use Rattle.std.proofs.lemmas.Bool.{cases_lt, false≢true, le-ltb, lt-ltb}
use Rattle.std.proofs.lemmas.Option.{same_Some}
use Rattle.std.specs.Borrow.{Bor}
use Rattle.std.specs.BTreeMap.{insert_entry}
use Rattle.std.specs.Cmp.Lexicographic.{slice_cmp}
use Rattle.std.specs.FinMap as fin
use Rattle.std.specs.FinMap.Entries.{by_order}
use Rattle.std.specs.Map.{lookup}
use Rattle.std.specs.Option.{unwrap_or}
use Rattle.std.specs.Ordering.{eq_by_cmp, is_eq, match_ordering, nat_cmp}
use Rattle.std.specs.declared.cmp.Ordering.{Ordering}
use Rattle.std.specs.declared.cmp.Ordering.TheVariants.{Less, Equal, Greater}
use Rattle.std.proofs.lemmas.List.{drop_all, drop_more}
use Rattle.refusals.specs.amount_math.Content.{Content, count, count-nothing, count-sum, count_listed, counts, entries, key_cmp, listed, nothing, of_entries, of_entries-entries, of_entries-nil, same_content}
use Rattle.refusals.specs.amount_math.Entries.{Entries, IsRising, at_key, entry_at, tally}
use Rattle.refusals.specs.amount_math.Sparse.{at-put, put, put_by}
use Rattle.refusals.specs.amount_math.Counted.{counted, counted-nothing, counted-sum}
use Rattle.refusals.specs.amount_math.ValueView.{IsValue, ValueView, bound, fits_from_value, keys_of, most_counted, nat_bound}
use Rattle.refusals.specs.amount_math.declared.Kind.{Kind}
use Rattle.refusals.specs.amount_math.declared.Kind.TheVariants.{Nat, Set, Bag}
use Rattle.refusals.proofs.amount_math.Listed.{at_own_key, listed-tally, listed_at, no_entries, same_key}
use Rattle.value_tests.specs.Listing.{IsTotal, listing, most_added}
use Rattle.value_tests.specs.Totals.{HasMore, total_of}

abbrev Pairs : Type 0
Pairs = List (Bor (List ℕ) × ℕ)

abbrev pub held_in : Pairs → Content
held_in es = of_entries (listing es)

-- ---- what is put

listing-insert : (es : Pairs) (k : Bor (List ℕ)) (n : ℕ) → listing (insert_entry (λ x y. slice_cmp nat_cmp x.now y.now) es k n) ≡ fin.put key_cmp k.now n (listing es)
listing-insert [] k n = refl
listing-insert (e ∷ es) k n = by (slice_cmp nat_cmp k.now e.0.now) (listing-insert es k n)
  where
    later : Pairs
    later = insert_entry (λ x y. slice_cmp nat_cmp x.now y.now) es k n

    by : (o : Ordering) → listing later ≡ fin.put key_cmp k.now n (listing es) → listing (match_ordering o ((k, n) ∷ e ∷ es) ((e.0, n) ∷ es) (e ∷ later)) ≡ by_order o ((k.now, n) ∷ (e.0.now, e.1) ∷ listing es) ((e.0.now, n) ∷ listing es) ((e.0.now, e.1) ∷ fin.put key_cmp k.now n (listing es))
    by Less rest = refl
    by Equal rest = refl
    by Greater rest = ap (λ fs. (e.0.now, e.1) ∷ fs) rest

entries-put : (c : Content) (k : List ℕ) (n : ℕ) → 0 < n → entries (put counts c k n) ≡ fin.put key_cmp k n (entries c)
unfolding put put_by
entries-put c k zero h = absurd (omega (arith, h))
entries-put c k (suc n) h = fin.entries-insert counts.total c.held k (suc n)

module _ (es fs : Pairs) (k : Bor (List ℕ)) (n : ℕ) (is : IsTotal es) (some : 0 < n) (put_there : fs ≡ insert_entry (λ x y. slice_cmp nat_cmp x.now y.now) es k n) where
  listed_after : listing fs ≡ entries (put counts (held_in es) k.now n)
  listed_after = ap listing put_there ∙ listing-insert es k n ∙ ap (fin.put key_cmp k.now n) (sym is.listed) ∙ sym (entries-put (held_in es) k.now n some)

  pub after_put : held_in fs ≡ put counts (held_in es) k.now n
  after_put = ap of_entries listed_after ∙ of_entries-entries (put counts (held_in es) k.now n)

  still_listed : entries (held_in fs) ≡ listing fs
  still_listed = ap entries after_put ∙ sym listed_after

  pub put_total : n < most_added → IsTotal fs
  put_total small = record {
    listed = still_listed;
    small = λ q. subst (λ m. m < most_added) (sym (ap (λ c. count c q) after_put ∙ at-put counts (held_in es) k.now n q)) (either (eq_by_cmp key_cmp q k.now) q);
  }
    where
      either : (b : Bool) (q : List ℕ) → cond b n (count (held_in es) q) < most_added
      either true q = small
      either false q = is.small q

pub put_more : (c : Content) (k : List ℕ) (n more : ℕ) → n ≡ count c k + more → HasMore (λ q. at_key q k more) c (put counts c k n)
put_more c k n more is_more q =
    at-put counts c k n q
    ∙ elim (eq_by_cmp key_cmp q k) as (λ b. eq_by_cmp key_cmp q k ≡ b → cond b n (count c q) ≡ count c q + cond b more 0) [
      | true ↦ λ e. is_more ∙ ap (λ x. count c x + more) (sym (same_key q k e))
      | false ↦ λ e. omega arith
    ] refl

-- ---- what is there

find-lookup : (q : List ℕ) (es : Pairs) → lookup (λ k. is_eq (slice_cmp nat_cmp q k.now)) es ≡ fin.find key_cmp q (listing es)
find-lookup q [] = refl
find-lookup q (e ∷ es) = ap (cond (is_eq (slice_cmp nat_cmp q e.0.now)) (Some e.1)) (find-lookup q es)

pub found_count : (es : Pairs) (q : List ℕ) → IsTotal es → unwrap_or (lookup (λ k. is_eq (slice_cmp nat_cmp q k.now)) es) 0 ≡ count (held_in es) q
found_count es q is = ap (λ o. unwrap_or o 0) (find-lookup q es ∙ ap (fin.find key_cmp q) (sym is.listed)) ∙ sym (count_listed (held_in es) q)

length-listing : (es : Pairs) → length (listing es) ≡ length es
length-listing [] = refl
length-listing (e ∷ es) = ap suc (length-listing es)

pub keys_listed : (es : Pairs) → IsTotal es → length es ≡ keys_of (held_in es)
keys_listed es is = sym (length-listing es) ∙ ap length (sym is.listed) ∙ sym (fin.len-entries (held_in es).held)

pub none_there : (es : Pairs) → es ≡ [] → held_in es ≡ nothing
none_there es e = ap held_in e ∙ of_entries-nil

pub empty_total : (es : Pairs) → es ≡ [] → IsTotal es
empty_total es e = record {
  listed = ap entries (none_there es e) ∙ no_entries ∙ ap listing (sym e);
  small = λ k. omega (arith, ap (λ c. count c k) (none_there es e), count-nothing k);
}

-- ---- entry by entry

pub tally_next : (es : Entries) (i : ℕ) (e : List ℕ × ℕ) → i < length es → e ≡ get_or es i e → e.1 ≤ tally (drop i es) e.0
tally_next es i e lt at = omega (arith, ap (λ fs. tally fs e.0) (drop_more es i e lt ∙ ap (λ f. f ∷ drop (i + 1) es) (sym at)), at_own_key e.0 e.1)

pub tally_entries : (c : Content) (k : List ℕ) → tally (entries c) k ≡ count c k
tally_entries c k = sym (listed-tally (entries c) k (fin.entries_sorted c.held)) ∙ sym (count_listed c k)

bounded : (kind : Kind) → bound kind ≤ nat_bound
bounded Nat = omega arith
bounded Set = omega arith
bounded Bag = omega arith

pub value_bounded : (kind : Kind) (c : Content) → IsValue kind c → (k : List ℕ) → count c k ≤ nat_bound
value_bounded kind c value k = omega (arith, (fits_from_value kind c value).each k, bounded kind)

pub ok_has : {A E : Type 0} {P Q : Type 0} (r : Result A E) → (P → Q) → OnOk r P → OnOk r Q
ok_has (Ok x) f h = f h
ok_has (Err e) f h = tt

pub same_more : (f g : List ℕ → ℕ) (c d : Content) → ((k : List ℕ) → f k ≡ g k) → HasMore f c d → HasMore g c d
same_more f g c d same has k = has k ∙ ap (λ n. count c k + n) (same k)

-- ---- in the order of the elements

entry_listed : (es : Pairs) (i : ℕ) (e : Bor (List ℕ) × ℕ) → slice_get es i ≡ Some e → entry_at (listing es) i ≡ (e.0.now, e.1)
entry_listed [] i e is = cc
entry_listed (f ∷ es) zero e is = ap (λ g. (g.0.now, g.1)) (same_Some f e is)
entry_listed (f ∷ es) (suc i) e is = entry_listed es i e is

pub listed_count : (es : Pairs) (c : Content) (i : ℕ) (e : Bor (List ℕ) × ℕ) → IsTotal es → held_in es ≡ c → i < length es → slice_get es i ≡ Some e → e.1 ≡ count c e.0.now
listed_count es c i e is held lt at =
    let here : entry_at (listing es) i ≡ (e.0.now, e.1) = entry_listed es i e at in
    let rising = subst (λ fs. IsRising fs) is.listed (fin.entries_sorted (held_in es).held) in
    let there = listed_at (listing es) i rising (omega (arith, lt, length-listing es)) in
    sym (ap (λ f. f.1) here)
    ∙ sym there
    ∙ ap (λ f. listed (listing es) f.0) here
    ∙ ap (λ fs. listed fs e.0.now) (sym is.listed)
    ∙ sym (count_listed (held_in es) e.0.now)
    ∙ ap (λ d. count d e.0.now) held

module _ (most : ℕ) (c : Content) (ks : List (List ℕ)) (k : List ℕ) (n : ℕ) (is : n ≡ count c k) where
  pub past_here : most < n → find (λ q. nat_lt most (count c q)) (k ∷ ks) ≡ Some k
  past_here over = ap (λ b. cond b (Some k) (find (λ q. nat_lt most (count c q)) ks)) (lt-ltb most (count c k) (omega (arith, over, is)))

  pub not_past_here : n ≤ most → find (λ q. nat_lt most (count c q)) (k ∷ ks) ≡ find (λ q. nat_lt most (count c q)) ks
  not_past_here fine = ap (λ b. cond b (Some k) (find (λ q. nat_lt most (count c q)) ks)) (le-ltb most (count c k) (omega (arith, fine, is)))

-- a sum that was tested and doesn't pass the most
pub not_passing : (b : Bool) (most n : ℕ) → IsTrue b ↔ (most < n) → b ≡ false → n ≤ most
not_passing b most n iff is = elim (cases_lt most n) [
  | inl over ↦ absurd (false≢true (sym is ∙ iff.1 over))
  | inr fine ↦ fine
]

-- ---- value by value

abbrev Lent : Type 0
Lent = List (Bor ValueView)

abbrev values_now : Lent → List ValueView
values_now vs = map (λ v. v.now) vs

module _ (vs : Lent) (i : ℕ) (v : Bor ValueView) (lt : i < length vs) (at : v ≡ get_or vs i v) where
  pub total_next : (k : List ℕ) → count (total_of (values_now (drop i vs))) k ≡ count v.now.content k + count (total_of (values_now (drop (i + 1) vs))) k
  total_next k = ap (λ us. count (total_of (values_now us)) k) (drop_more vs i v lt ∙ ap (λ u. u ∷ drop (i + 1) vs) (sym at)) ∙ count-sum v.now.content (total_of (values_now (drop (i + 1) vs))) k

pub total_ends : (vs : Lent) (i : ℕ) (c : Content) → length vs ≤ i → ((k : List ℕ) → count c k + count (total_of (values_now (drop i vs))) k ≡ count (total_of (values_now vs)) k) → c ≡ total_of (values_now vs)
total_ends vs i c past each = same_content c _ (λ k. omega (arith, each k, ap (λ us. count (total_of (values_now us)) k) (drop_all i vs past), count-nothing k))

module _ (vs : Lent) (i : ℕ) (v : Bor ValueView) (lt : i < length vs) (at : v ≡ get_or vs i v) where
  pub counted_next : counted (total_of (values_now (drop i vs))) ≡ counted v.now.content + counted (total_of (values_now (drop (i + 1) vs)))
  counted_next = ap (λ us. counted (total_of (values_now us))) (drop_more vs i v lt ∙ ap (λ u. u ∷ drop (i + 1) vs) (sym at)) ∙ counted-sum v.now.content (total_of (values_now (drop (i + 1) vs)))

pub counted_ends : (vs : Lent) (i : ℕ) → length vs ≤ i → counted (total_of (values_now (drop i vs))) ≡ 0
counted_ends vs i past = ap (λ us. counted (total_of (values_now us))) (drop_all i vs past) ∙ counted-nothing

pub most_small : (kind : Kind) → most_counted kind ≤ nat_bound
most_small Nat = omega arith
most_small Set = omega arith
most_small Bag = omega arith
