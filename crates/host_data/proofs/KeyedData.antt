-- Keys with their counts in any order: which of them are the entries of a set or a bag, and of which.
use Rattle.std.proofs.Common.{◌≡◌, ◌≢◌, ℕ, zero, suc, ◌+◌, ◌<◌, ◌≤◌, Bool, true, false, cond, not, ◌&&◌, ◌||◌, Option, Some, None, Result, Ok, Err, IfErr, IfOk, if◌then◌else◌, List, [], ◌∷◌, length, map, nat_le, refl, sym, ap, subst, ◌∙◌, arith, ℤ, pos, negsuc}
use Rattle.std.proofs.lemmas.Bool.{and_parts, and_from, leb-true, le-leb, false≢true}
use Rattle.std.proofs.lemmas.List.Elements.{All-cons, All-head, All-tail, All-nil}
use Rattle.std.proofs.lemmas.List.Sorted.{IsPermutation-refl, IsPermutation-cons, IsPermutation-trans, IsPermutation-middle, length_permutation, sum_by-IsPermutation}
use Rattle.std.proofs.lemmas.List.Sums.{sum_by-cons}
use Rattle.std.proofs.lemmas.Option.{none-some, same_Some}
use Rattle.std.proofs.Math.IntN.{nat_abs}
use lib.Dec.{T}
use Rattle.std.specs.Cmp.{tied_itself, unsigned_ties}
use Rattle.std.specs.Cmp.Lexicographic.{lists_ties}
use Rattle.std.specs.List.{All, list_all, list_any, sum_by}
use Rattle.std.specs.List.Sorted.{IsPermutation}
use Rattle.std.specs.Option.{option_and_then, option_map, unwrap_or}
use Rattle.std.specs.Ordering.{eq_by_cmp, is_eq, is_lt, nat_cmp}
use Rattle.std.specs.Str.{bytes_eq}
use Rattle.std.specs.declared.cmp.Ordering.TheVariants.{Less, Equal, Greater}
use Rattle.std.specs.FinMap as fin
use Rattle.std.specs.FinMap.{find}
use Rattle.std.specs.FinMap.Entries.{below_all, by_order}
use Rattle.amount_math.specs.Content.{Content, key_cmp, counts, count, count-of_entries, entries, of_entries, of_entries-entries, of_entries-nil, of_nat, same_content, count_listed}
use Rattle.amount_math.specs.Entries.{Entries, IsEntry, IsRising, as_one, most_of_key, tally}
use Rattle.amount_math.specs.KindData.{IsKeysOf, IsPairsOf, signed}
use Rattle.amount_math.specs.Sparse.{at-put, put, put_by, same_found}
use Rattle.amount_math.specs.Totals.{first, less, second}
use Rattle.amount_math.specs.NatLaws.{IsNat-of_nat}
use Rattle.amount_math.specs.ValueView.{IsBag, IsNat, IsNumber, IsSet, ValueView, most_keys, nat_bound}
use Rattle.amount_math.specs.declared.Kind.{Kind}
use Rattle.amount_math.specs.declared.Kind.TheVariants.{Nat, Set, Bag}
use Rattle.amount_math.specs.declared.kinds.MakeFault.{MakeFault}
use Rattle.amount_math.specs.declared.kinds.MakeFault.TheVariants.{BadValue, NoMemory}
use Rattle.amount_math.proofs.Listed.{listed-tally, no_entries, rising_rest, below_rest, same_key}
use Rattle.amount_math.proofs.Numbers.{number_is_within}
use Rattle.amount_math.proofs.Permuted.{all_entries, as_many, bag_of_entries, keys_are_entries, made_of_keys, made_of_pairs, made_set, pairs_are_entries, pairs_are_small, set_is_bag, sorted_entries, IsPair}
use Rattle.host_data.specs.Amounts.{Makes, are_apart, are_entries, bag_in, bag_of, counted_key, is_entry, keyed_value, nat_value, pair_in, read_all, set_in, set_of, whole}
use Rattle.host_data.specs.Tree.{Tree, list_of, text_of}

-- ---- tests

neither : (a b : Bool) → (a || b) ≡ false → (a ≡ false) × (b ≡ false)
neither false b e = (refl, e)
neither true b e = absurd (false≢true (sym e))

not_so : (b : Bool) → not b ≡ true → b ≡ false
not_so false e = refl
not_so true e = absurd (false≢true e)

same_test : (k q : List ℕ) → bytes_eq k q ≡ eq_by_cmp key_cmp k q
same_test k q = lists_ties nat_cmp unsigned_ties k q

not_some : (n : ℕ) → Some n ≢ None
not_some n e = cc

abbrev has : List ℕ → Entries → Bool
has k es = list_any (λ f. bytes_eq k f.0) es

not_found : (k : List ℕ) (es : Entries) → has k es ≡ false → find key_cmp k es ≡ None
not_found k [] e = refl
not_found k (f ∷ es) e =
    let parts = neither (bytes_eq k f.0) (has k es) e in
    ap (λ b. cond b (Some f.1) (find key_cmp k es)) (sym (same_test k f.0) ∙ parts.0) ∙ not_found k es parts.1

-- ---- entries by their tests

entry_of : (e : List ℕ × ℕ) → is_entry e ≡ true → IsEntry e
entry_of e h =
    let parts = and_parts (nat_le 1 (length e.0) && nat_le (length e.0) 64) (nat_le 1 e.1 && nat_le e.1 most_of_key) h in
    let key = and_parts (nat_le 1 (length e.0)) (nat_le (length e.0) 64) parts.0 in
    let number = and_parts (nat_le 1 e.1) (nat_le e.1 most_of_key) parts.1 in
    record {
      key = record { filled = omega (arith, leb-true 1 (length e.0) key.0); short = leb-true (length e.0) 64 key.1 };
      some = omega (arith, leb-true 1 e.1 number.0);
      bounded = leb-true e.1 most_of_key number.1;
    }

entry_passes : (e : List ℕ × ℕ) → IsEntry e → is_entry e ≡ true
entry_passes e h =
    and_from _ _
    (and_from _ _ (le-leb 1 (length e.0) (omega (arith, h.key.filled))) (le-leb (length e.0) 64 h.key.short))
    (and_from _ _ (le-leb 1 e.1 (omega (arith, h.some))) (le-leb e.1 most_of_key h.bounded))

each_entry : (es : Entries) → list_all is_entry es ≡ true → All IsEntry es
each_entry [] h = All-nil IsEntry
each_entry (e ∷ es) h =
    let parts = and_parts (is_entry e) (list_all is_entry es) h in
    All-cons IsEntry e es (entry_of e parts.0) (each_entry es parts.1)

entries_pass : (es : Entries) → All IsEntry es → list_all is_entry es ≡ true
entries_pass [] h = refl
entries_pass (e ∷ es) h = and_from _ _ (entry_passes e (All-head IsEntry e es h)) (entries_pass es (All-tail IsEntry e es h))

-- ---- keys that stand apart are those of a content

put_permutes : (k : List ℕ) (v : ℕ) (es : Entries) → find key_cmp k es ≡ None → IsPermutation ((k, v) ∷ es) (fin.put key_cmp k v es)
put_permutes k v [] none = IsPermutation-refl ((k, v) ∷ [])
put_permutes k v (e ∷ es) none =
    elim (key_cmp k e.0) as (λ o. key_cmp k e.0 ≡ o → IsPermutation ((k, v) ∷ e ∷ es) (by_order o ((k, v) ∷ e ∷ es) ((e.0, v) ∷ es) (e ∷ fin.put key_cmp k v es))) [
      | Less ↦ λ p. IsPermutation-refl ((k, v) ∷ e ∷ es)
      | Equal ↦ λ p. absurd (not_some e.1 (sym (ap (λ o. cond (is_eq o) (Some e.1) (find key_cmp k es)) p) ∙ none))
      | Greater ↦ λ p.
          let rest : find key_cmp k es ≡ None = sym (ap (λ o. cond (is_eq o) (Some e.1) (find key_cmp k es)) p) ∙ none in
          IsPermutation-trans ((k, v) ∷ e ∷ es) (e ∷ (k, v) ∷ es) _ (IsPermutation-middle ((k, v) ∷ []) e es) (IsPermutation-cons e _ _ (put_permutes k v es rest))
    ] refl

entries-put : (c : Content) (k : List ℕ) (n : ℕ) → 0 < n → entries (put counts c k n) ≡ fin.put key_cmp k n (entries c)
unfolding put put_by
entries-put c k zero h = absurd (omega (arith, h))
entries-put c k (suc n) h = fin.entries-insert counts.total c.held k (suc n)

chosen : (b : Bool) (n : ℕ) (o : Option ℕ) → unwrap_or (cond b (Some n) o) 0 ≡ cond b n (unwrap_or o 0)
chosen true n o = refl
chosen false n o = refl

-- the content of one more entry
of_entries-cons : (e : List ℕ × ℕ) (es : Entries) → of_entries (e ∷ es) ≡ put counts (of_entries es) e.0 e.1
of_entries-cons e es = same_content _ _ (λ q.
    count-of_entries (e ∷ es) q
    ∙ chosen (eq_by_cmp key_cmp q e.0) e.1 (find key_cmp q es)
    ∙ ap (λ n. cond (eq_by_cmp key_cmp q e.0) e.1 n) (sym (count-of_entries es q))
    ∙ sym (at-put counts (of_entries es) e.0 e.1 q))

apart_permutes : (es : Entries) → All IsEntry es → are_apart es ≡ true → IsPermutation es (entries (of_entries es))
apart_permutes [] all apart = subst (λ (c : Content). IsPermutation [] (entries c)) (sym of_entries-nil) (subst (λ (fs : Entries). IsPermutation [] fs) (sym no_entries) (IsPermutation-refl []))
apart_permutes (e ∷ es) all apart =
    let parts = and_parts (not (has e.0 es)) (are_apart es) apart in
    let none : find key_cmp e.0 es ≡ None = not_found e.0 es (not_so (has e.0 es) parts.0) in
    let c = of_entries es in
    let absent : find key_cmp e.0 (entries c) ≡ None = sym (fin.get-entries c.held e.0) ∙ same_found counts (fin.get c.held e.0) None (c.listed e.0) tt (count-of_entries es e.0 ∙ ap (λ o. unwrap_or o 0) none) in
    subst (λ (fs : Entries). IsPermutation (e ∷ es) fs) (sym (ap entries (of_entries-cons e es) ∙ entries-put c e.0 e.1 (All-head IsEntry e es all).some))
    (IsPermutation-trans (e ∷ es) (e ∷ entries c) _ (IsPermutation-cons e es (entries c) (apart_permutes es (All-tail IsEntry e es all) parts.1))
    (put_permutes e.0 e.1 (entries c) absent))

pub record AreOf (es : Entries) : Type 0 where
  pub all : All IsEntry es
  pub apart : are_apart es ≡ true
  pub few : length es ≤ most_keys

are_of : (es : Entries) → are_entries es ≡ true → AreOf es
are_of es h =
    let parts = and_parts (list_all is_entry es && are_apart es) (nat_le (length es) most_keys) h in
    let both = and_parts (list_all is_entry es) (are_apart es) parts.0 in
    record { all = each_entry es both.0; apart = both.1; few = leb-true (length es) most_keys parts.1 }

-- entries in any order are those of the bag that they stand for
pub entries_permute : (es : Entries) → are_entries es ≡ true → IsPermutation es (entries (of_entries es))
entries_permute es h = let are = are_of es h in apart_permutes es are.all are.apart

pub entries_make_bag : (es : Entries) → are_entries es ≡ true → IsBag (of_entries es)
entries_make_bag es h =
    let are = are_of es h in
    let c = of_entries es in
    let same = apart_permutes es are.all are.apart in
    subst IsBag (of_entries-entries c) (bag_of_entries (entries c) (sorted_entries es (entries c) same (fin.entries_sorted c.held) are.all)
    (omega (arith, are.few, length_permutation es (entries c) same)))

-- ---- a bag's entries in any order pass the tests, and stand for it alone

abbrev one_if : Bool → ℕ
one_if b = cond b 1 0

abbrev times : List ℕ → Entries → ℕ
times k [] = 0
times k (e ∷ es) = one_if (bytes_eq k e.0) + times k es

none_below : (k : List ℕ) (es : Entries) → T (below_all key_cmp k es) → times k es ≡ 0
none_below k [] h = refl
none_below k (e ∷ es) h =
    omega (arith, ap one_if (same_test k e.0 ∙ ap is_eq (less _ (first _ (below_all key_cmp k es) h))), none_below k es (second (is_lt (key_cmp k e.0)) _ h))

once : (k : List ℕ) (es : Entries) → IsRising es → times k es ≤ 1
once k [] h = omega arith
once k (e ∷ es) h = elim (bytes_eq k e.0) as (λ b. bytes_eq k e.0 ≡ b → one_if b + times k es ≤ 1) [
  | true ↦ λ t. omega (arith, subst (λ q. times q es ≡ 0) (sym (same_key k e.0 (sym (same_test k e.0) ∙ t))) (none_below e.0 es (below_rest e es h)))
  | false ↦ λ t. omega (arith, once k es (rising_rest e es h))
] refl

times-sum : (k : List ℕ) (es : Entries) → sum_by (λ (e : List ℕ × ℕ). one_if (bytes_eq k e.0)) es ≡ times k es
times-sum k [] = refl
times-sum k (e ∷ es) = sum_by-cons (λ (x : List ℕ × ℕ). one_if (bytes_eq k x.0)) e es ∙ ap (λ n. one_if (bytes_eq k e.0) + n) (times-sum k es)

absent : (k : List ℕ) (es : Entries) → times k es ≡ 0 → has k es ≡ false
absent k [] h = refl
absent k (e ∷ es) h = elim (bytes_eq k e.0) as (λ b. one_if b + times k es ≡ 0 → (b || has k es) ≡ false) [
  | true ↦ λ t. absurd (omega (arith, t))
  | false ↦ λ t. absent k es (omega (arith, t))
] h

itself : (k : List ℕ) → bytes_eq k k ≡ true
itself k = same_test k k ∙ ap is_eq (tied_itself counts.total k)

once_apart : (es : Entries) → ((k : List ℕ) → times k es ≤ 1) → are_apart es ≡ true
once_apart [] h = refl
once_apart (e ∷ es) h =
    let gone : has e.0 es ≡ false = absent e.0 es (omega (arith, h e.0, ap one_if (itself e.0))) in
    and_from _ _ (ap not gone) (once_apart es (λ k. omega (arith, h k)))

tally-sum : (k : List ℕ) (es : Entries) → sum_by (λ (e : List ℕ × ℕ). cond (eq_by_cmp key_cmp k e.0) e.1 0) es ≡ tally es k
tally-sum k [] = refl
tally-sum k (e ∷ es) = sum_by-cons (λ (x : List ℕ × ℕ). cond (eq_by_cmp key_cmp k x.0) x.1 0) e es ∙ ap (λ n. cond (eq_by_cmp key_cmp k e.0) e.1 0 + n) (tally-sum k es)

tally-moved : (k : List ℕ) (es fs : Entries) → IsPermutation es fs → tally fs k ≡ tally es k
tally-moved k es fs same = sym (tally-sum k fs) ∙ sum_by-IsPermutation (λ (e : List ℕ × ℕ). cond (eq_by_cmp key_cmp k e.0) e.1 0) es fs same ∙ tally-sum k es

counted : (c : Content) (k : List ℕ) → count c k ≡ tally (entries c) k
counted c k = count_listed c k ∙ listed-tally (entries c) k (fin.entries_sorted c.held)

module _ (es : Entries) (c : Content) (bag : IsBag c) (same : IsPermutation es (entries c)) where
  times_moved : (k : List ℕ) → times k (entries c) ≡ times k es
  times_moved k = sym (times-sum k (entries c)) ∙ sum_by-IsPermutation (λ (e : List ℕ × ℕ). one_if (bytes_eq k e.0)) es (entries c) same ∙ times-sum k es

  bag_apart : are_apart es ≡ true
  bag_apart = once_apart es (λ k. omega (arith, once k (entries c) (fin.entries_sorted c.held), times_moved k))

  pub bag_passes : are_entries es ≡ true
  bag_passes = and_from _ _ (and_from _ _ (entries_pass es (all_entries es c bag same)) bag_apart) (le-leb (length es) most_keys (as_many es c bag same))

  pub bag_alone : of_entries es ≡ c
  bag_alone =
      let d = of_entries es in
      same_content d c (λ k. counted d k ∙ tally-moved k es (entries d) (apart_permutes es (all_entries es c bag same) bag_apart) ∙ sym (tally-moved k es (entries c) same) ∙ sym (counted c k))

-- ---- what keys are the value of

abbrev pub keyed_if : Kind → Entries → Bool → Option ValueView
keyed_if kind es b = if b then Some (record { kind = kind; content = of_entries es }) else None

keyed_so : (kind : Kind) (es : Entries) → are_entries es ≡ true → keyed_value kind es ≡ Some (record { kind = kind; content = of_entries es })
unfolding keyed_value
keyed_so kind es h = ap (keyed_if kind es) h

keyed_not : (kind : Kind) (es : Entries) → are_entries es ≡ false → keyed_value kind es ≡ None
unfolding keyed_value
keyed_not kind es h = ap (keyed_if kind es) h

pub set_is : (ks : List (List ℕ)) (w : ValueView) → w.kind ≡ Set → IsKeysOf ks w.content → IsSet w.content → set_of ks ≡ Some w
set_is ks w kind keys set =
    let es = map as_one ks in
    let bag = set_is_bag w.content set in
    let same = keys_are_entries ks es (IsPermutation-refl es) w.content set keys in
    keyed_so Set es (bag_passes es w.content bag same) ∙ (λ i. Some (record { kind = sym kind i; content = bag_alone es w.content bag same i }))

pub set_is_not : (ks : List (List ℕ)) → ((c : Content) → IsSet c → ¬ IsKeysOf ks c) → set_of ks ≡ None
set_is_not ks none =
    let es = map as_one ks in
    elim (are_entries es) as (λ b. are_entries es ≡ b → keyed_value Set es ≡ None) [
      | true ↦ λ h.
          let c = of_entries es in
          let same = entries_permute es h in
          absurd (none c (made_set ks es (IsPermutation-refl es) c (entries_make_bag es h) same) (made_of_keys ks es (IsPermutation-refl es) c same))
      | false ↦ λ h. keyed_not Set es h
    ] refl

-- ---- what keys with numbers are the value of

abbrev unsigned : List ℕ × ℤ → List ℕ × ℕ
unsigned p = (p.0, nat_abs p.1)

-- where each number is a whole one
pairs_read : (ps : List (List ℕ × ℤ)) → All IsPair ps → read_all counted_key ps ≡ Some (map unsigned ps)
pairs_read [] all = refl
pairs_read (p ∷ ps) all =
    let own = All-head IsPair p ps all in
    ap (λ z. option_and_then (λ (e : List ℕ × ℕ). option_map (λ (es : Entries). e ∷ es) (read_all counted_key ps)) (option_map (λ n. (p.0, n)) (whole z))) own.is
    ∙ ap (λ (o : Option Entries). option_map (λ (es : Entries). (p.0, own.number) ∷ es) o) (pairs_read ps (All-tail IsPair p ps all))
    ∙ ap (λ z. Some ((p.0, nat_abs z) ∷ map unsigned ps)) (sym own.is)

pairs_back : (ps : List (List ℕ × ℤ)) → All IsPair ps → map signed (map unsigned ps) ≡ ps
pairs_back [] all = refl
pairs_back (p ∷ ps) all =
    let own = All-head IsPair p ps all in
    ap (λ z. (p.0, pos (nat_abs z)) ∷ map signed (map unsigned ps)) own.is
    ∙ ap (λ z. (p.0, z) ∷ map signed (map unsigned ps)) (sym own.is)
    ∙ ap (λ (qs : List (List ℕ × ℤ)). p ∷ qs) (pairs_back ps (All-tail IsPair p ps all))

abbrev one_read : List ℕ → ℤ → Option Entries → Option Entries
one_read k z o = option_and_then (λ (e : List ℕ × ℕ). option_map (λ (fs : Entries). e ∷ fs) o) (option_map (λ n. (k, n)) (whole z))

read_are : (ps : List (List ℕ × ℤ)) (es : Entries) → read_all counted_key ps ≡ Some es → map signed es ≡ ps
read_are [] es is = ap (map signed) (sym (same_Some [] es is))
read_are (p ∷ ps) es is = by (λ fs rest. read_are ps fs rest) p.1 refl
  where
    from : ((fs : Entries) → read_all counted_key ps ≡ Some fs → map signed fs ≡ ps) → (n : ℕ) → p.1 ≡ pos n → (o : Option Entries) → read_all counted_key ps ≡ o → one_read p.0 (pos n) o ≡ Some es → map signed es ≡ p ∷ ps
    from later n whole_is None rest e = absurd (none-some es e)
    from later n whole_is (Some fs) rest e = ap (map signed) (sym (same_Some ((p.0, n) ∷ fs) es e)) ∙ (λ i. (p.0, sym whole_is i) ∷ later fs rest i)

    by : ((fs : Entries) → read_all counted_key ps ≡ Some fs → map signed fs ≡ ps) → (z : ℤ) → p.1 ≡ z → map signed es ≡ p ∷ ps
    by later (pos n) z = from later n z (read_all counted_key ps) refl (ap (λ x. one_read p.0 x (read_all counted_key ps)) (sym z) ∙ is)
    by later (negsuc n) z = absurd (none-some es (ap (λ x. one_read p.0 x (read_all counted_key ps)) (sym z) ∙ is))

read_so : (ps : List (List ℕ × ℤ)) (es : Entries) → read_all counted_key ps ≡ Some es → bag_of ps ≡ keyed_value Bag es
read_so ps es is = ap (option_and_then (keyed_value Bag)) is

read_not : (ps : List (List ℕ × ℤ)) → read_all counted_key ps ≡ None → bag_of ps ≡ None
read_not ps is = ap (option_and_then (keyed_value Bag)) is

as_made : (ps : List (List ℕ × ℤ)) (es : Entries) → map signed es ≡ ps → IsPermutation ps (map signed es)
as_made ps es is = subst (λ (qs : List (List ℕ × ℤ)). IsPermutation ps qs) (sym is) (IsPermutation-refl ps)

pub bag_is : (ps : List (List ℕ × ℤ)) (w : ValueView) → w.kind ≡ Bag → IsPairsOf ps w.content → IsBag w.content → bag_of ps ≡ Some w
bag_is ps w kind pairs bag =
    let small = pairs_are_small ps w.content bag pairs in
    let es = map unsigned ps in
    let same = pairs_are_entries ps es (as_made ps es (pairs_back ps small)) w.content pairs in
    read_so ps es (pairs_read ps small) ∙ keyed_so Bag es (bag_passes es w.content bag same) ∙ (λ i. Some (record { kind = sym kind i; content = bag_alone es w.content bag same i }))

pub bag_is_not : (ps : List (List ℕ × ℤ)) → ((c : Content) → IsBag c → ¬ IsPairsOf ps c) → bag_of ps ≡ None
bag_is_not ps none = by (read_all counted_key ps) refl
  where
    by : (o : Option Entries) → read_all counted_key ps ≡ o → bag_of ps ≡ None
    by None is = read_not ps is
    by (Some es) is = read_so ps es is ∙ elim (are_entries es) as (λ b. are_entries es ≡ b → keyed_value Bag es ≡ None) [
      | true ↦ λ h. absurd (none (of_entries es) (entries_make_bag es h) (made_of_pairs ps es (as_made ps es (read_are ps es is)) (of_entries es) (entries_permute es h)))
      | false ↦ λ h. keyed_not Bag es h
    ] refl

-- ---- what is made of data

-- data that is a list is the value of what its items are read as
pub set_at : (t : Tree) (items : List Tree) (ks : List (List ℕ)) → Some items ≡ list_of t → read_all text_of items ≡ Some ks → set_in t ≡ set_of ks
unfolding set_in
set_at t items ks at reads = ap (λ o. option_and_then set_of (option_and_then (read_all text_of) o)) (sym at) ∙ ap (option_and_then set_of) reads

pub bag_at : (t : Tree) (items : List Tree) (ps : List (List ℕ × ℤ)) → Some items ≡ list_of t → read_all pair_in items ≡ Some ps → bag_in t ≡ bag_of ps
unfolding bag_in
bag_at t items ps at reads = ap (λ o. option_and_then bag_of (option_and_then (read_all pair_in) o)) (sym at) ∙ ap (option_and_then bag_of) reads

pub set_made : (ks : List (List ℕ)) (r : Result ValueView MakeFault) → IfOk r (λ w. (w.kind ≡ Set) × IsKeysOf ks w.content) → IfOk r (λ w. IsSet w.content)
    → IfErr r (λ fault. ¬ (fault ≡ NoMemory) → (c : Content) → IsSet c → ¬ IsKeysOf ks c) → Makes (λ w. w) r (set_of ks)
set_made ks (Ok w) keys set none = set_is ks w keys.0 keys.1 set
set_made ks (Err BadValue) keys set none = set_is_not ks (none (λ e. cc))
set_made ks (Err NoMemory) keys set none = tt

pub bag_made : (ps : List (List ℕ × ℤ)) (r : Result ValueView MakeFault) → IfOk r (λ w. (w.kind ≡ Bag) × IsPairsOf ps w.content) → IfOk r (λ w. IsBag w.content)
    → IfErr r (λ fault. ¬ (fault ≡ NoMemory) → (c : Content) → IsBag c → ¬ IsPairsOf ps c) → Makes (λ w. w) r (bag_of ps)
bag_made ps (Ok w) pairs bag none = bag_is ps w pairs.0 pairs.1 bag
bag_made ps (Err BadValue) pairs bag none = bag_is_not ps (none (λ e. cc))
bag_made ps (Err NoMemory) pairs bag none = tt

-- ---- what a number is the value of

abbrev pub nat_if : ℕ → Bool → Option ValueView
nat_if n b = if b then Some (record { kind = Nat; content = of_nat n }) else None

pub nat_is : (z : ℤ) (w : ValueView) → w.kind ≡ Nat → IsNumber z w.content → IsNat w.content → nat_value z ≡ Some w
nat_is z w kind number nat =
    let n = number.number in
    let small : n ≤ nat_bound = omega (arith, number_is_within z w.content nat number) in
    ap nat_value number.whole
    ∙ ap (nat_if n) (le-leb n nat_bound small)
    ∙ (λ i. Some (record { kind = sym kind i; content = sym number.units i }))

pub nat_is_not : (z : ℤ) → ((c : Content) → IsNat c → ¬ IsNumber z c) → nat_value z ≡ None
nat_is_not (negsuc n) none = refl
nat_is_not (pos n) none = elim (nat_le n nat_bound) as (λ b. nat_le n nat_bound ≡ b → nat_if n b ≡ None) [
  | true ↦ λ h. absurd (none (of_nat n) (IsNat-of_nat n (leb-true n nat_bound h)) (record { number = n; whole = refl; units = refl }))
  | false ↦ λ h. refl
] refl
