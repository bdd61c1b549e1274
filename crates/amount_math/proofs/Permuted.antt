-- Entries in any order: once sorted they are entries, or they are those of no content.
use Rattle.std.proofs.Common.{inl, inr, ◌≡◌, ◌≢◌, ℕ, zero, suc, ◌+◌, ◌<◌, ◌≤◌, ◌++◌, Bool, true, false, cond, List, [], ◌∷◌, length, get_or, map, refl, sym, ap, subst, ◌∙◌, arith, append_assoc, ℤ, pos}
use Rattle.std.proofs.lemmas.List.Sorted.{IsPermutation-sym, IsPermutation-trans, IsPermutation-map, IsPermutation-to_front, IsPermutation-append_right, All-permutation, length_permutation, sum_by-IsPermutation}
use Rattle.std.proofs.lemmas.List.Elements.{All-head, All-map, All-from_get_or}
use lib.Dec.{T}
use Rattle.std.specs.Option.{unwrap_or}
use Rattle.std.proofs.Math.IntN.{nat_abs}
use Rattle.std.proofs.lemmas.List.{map-append}
use Rattle.std.specs.List.{All, sum_by}
use Rattle.std.specs.List.Sorted.{IsPermutation, IsSortedBy}
use Rattle.std.specs.Ordering.{is_eq, is_lt, eq_by_cmp}
use Rattle.std.specs.declared.cmp.Ordering.TheVariants.{Less, Equal, Greater}
use Rattle.std.specs.FinMap as fin
use Rattle.std.specs.FinMap.{is_sorted}
use Rattle.std.specs.FinMap.Entries.{below_all}
use Rattle.std.proofs.lemmas.List.Sums.{sum_by-cons}
use Rattle.amount_math.specs.Totals.{first, second, less, weighed}
use Rattle.amount_math.specs.Content.{Content, key_cmp, counts, entries, of_entries, count, count_listed}
use Rattle.amount_math.specs.Entries.{Entries, IsEntry, IsRising, AreEntries, as_one, entry_at, most_of_key}
use Rattle.amount_math.specs.ValueView.{IsBag, IsSet, most_keys}
use Rattle.amount_math.specs.KindData.{IsKeysOf, IsPairsOf, signed}
use Rattle.amount_math.proofs.Listed.{both, below_rest, rising_rest, entries_are, tied, same_key, listed_at, found, keys_have_form, count_bounded, entries-of_entries}
use Rattle.amount_math.proofs.Searched.{turned}

-- ---- neighbours in order

below_less : (k q : List ℕ) (es : Entries) → key_cmp k q ≡ Less → T (below_all key_cmp q es) → T (below_all key_cmp k es)
below_less k q [] lt h = tt
below_less k q (e ∷ es) lt h = both (is_lt (key_cmp k e.0)) _
    (subst (λ o. T (is_lt o)) (sym (counts.total.trans k q e.0 lt (less _ (first _ (below_all key_cmp q es) h)))) tt)
    (below_less k q es lt (second (is_lt (key_cmp q e.0)) _ h))

next_index : (j : ℕ) → suc (j + 1) ≡ suc j + 1
next_index j = omega arith

pub rising_from_neighbours : (es : Entries) → ((j : ℕ) → j + 1 < length es → key_cmp (entry_at es j).0 (entry_at es (j + 1)).0 ≡ Less) → IsRising es
rising_from_neighbours [] h = tt
rising_from_neighbours (e ∷ []) h = tt
rising_from_neighbours (e ∷ f ∷ es) h =
    let rest = rising_from_neighbours (f ∷ es) (λ j lt. ap (λ n. key_cmp (entry_at (f ∷ es) j).0 (entry_at (e ∷ f ∷ es) n).0) (next_index j) ∙ h (suc j) (omega (arith, lt))) in
    let lt = h 0 (omega arith) in
    both (below_all key_cmp e.0 (f ∷ es)) (is_sorted key_cmp (f ∷ es))
    (both (is_lt (key_cmp e.0 f.0)) (below_all key_cmp e.0 es) (subst (λ o. T (is_lt o)) (sym lt) tt) (below_less e.0 f.0 es lt (below_rest f es rest)))
    rest

-- ---- how often a key stands in a list

abbrev one_if : Bool → ℕ
one_if b = cond b 1 0

abbrev is_key : List ℕ → List ℕ → ℕ → ℕ
is_key k q n = one_if (eq_by_cmp key_cmp k q)

abbrev times : List ℕ → Entries → ℕ
times k es = weighed (is_key k) es

none_below : (k : List ℕ) (es : Entries) → T (below_all key_cmp k es) → times k es ≡ 0
none_below k [] h = refl
none_below k (e ∷ es) h = omega (arith, ap (λ r. one_if (is_eq r)) (less _ (first _ (below_all key_cmp k es) h)), none_below k es (second (is_lt (key_cmp k e.0)) _ h))

-- in rising entries at most once
once : (k : List ℕ) (es : Entries) → IsRising es → times k es ≤ 1
once k [] h = omega arith
once k (e ∷ es) h = elim (eq_by_cmp key_cmp k e.0) as (λ b. eq_by_cmp key_cmp k e.0 ≡ b → one_if b + times k es ≤ 1) [
  | true ↦ λ t. omega (arith, subst (λ q. times q es ≡ 0) (sym (same_key k e.0 t)) (none_below e.0 es (below_rest e es h)))
  | false ↦ λ t. omega (arith, once k es (rising_rest e es h))
] refl

twice : (es : Entries) (i : ℕ) → i + 1 < length es → (entry_at es i).0 ≡ (entry_at es (i + 1)).0 → 2 ≤ times (entry_at es i).0 es
twice [] i lt same = absurd (omega (arith, lt))
twice (e ∷ []) i lt same = absurd (omega (arith, lt))
twice (e ∷ f ∷ es) zero lt same = omega (arith, ap one_if (tied e.0), ap one_if (ap (eq_by_cmp key_cmp e.0) (sym same) ∙ tied e.0))
twice (e ∷ f ∷ es) (suc i) lt same =
    let there : (entry_at (f ∷ es) i).0 ≡ (entry_at (f ∷ es) (i + 1)).0 = same ∙ ap (λ n. (entry_at (e ∷ f ∷ es) n).0) (sym (next_index i)) in
    omega (arith, twice (f ∷ es) i (omega (arith, lt)) there)

summed : (k : List ℕ) (es : Entries) → sum_by (λ (e : List ℕ × ℕ). is_key k e.0 e.1) es ≡ times k es
summed k [] = refl
summed k (e ∷ es) = sum_by-cons (λ (x : List ℕ × ℕ). is_key k x.0 x.1) e es ∙ ap (λ n. is_key k e.0 e.1 + n) (summed k es)

-- ---- entries of a content, in another order

bag_entries : (c : Content) → IsBag c → AreEntries (entries c)
bag_entries c bag = entries_are c bag.keyed.keys bag.fits.each

module _ (es : Entries) (c : Content) (bag : IsBag c) (same : IsPermutation es (entries c)) where
  pub all_entries : All IsEntry es
  all_entries = All-permutation IsEntry (entries c) es (IsPermutation-sym es (entries c) same) (bag_entries c bag).each

  pub as_many : length es ≤ most_keys
  as_many = omega (arith, length_permutation es (entries c) same, fin.len-entries c.held, bag.keyed.few)

  -- of two neighbours in order the first is before the second
  pub neighbours_rise : (i : ℕ) → i + 1 < length es → IsSortedBy (λ a b. is_lt (key_cmp a.0 b.0)) es → key_cmp (entry_at es i).0 (entry_at es (i + 1)).0 ≡ Less
  neighbours_rise i lt sorted = elim (key_cmp (entry_at es i).0 (entry_at es (i + 1)).0) as (λ o. key_cmp (entry_at es i).0 (entry_at es (i + 1)).0 ≡ o → o ≡ Less) [
    | Less ↦ λ e. refl
    | Equal ↦ λ e. absurd (omega (arith, twice es i lt (counts.same _ _ e), once (entry_at es i).0 (entries c) (fin.entries_sorted c.held), moved (entry_at es i).0))
    | Greater ↦ λ e. absurd (not_true (sym (sorted i ([], 0) (omega arith) lt) ∙ ap is_lt (turned (entry_at es i).0 (entry_at es (i + 1)).0 Greater e)))
  ] refl
    where
      moved : (k : List ℕ) → times k (entries c) ≡ times k es
      moved k = sym (summed k (entries c)) ∙ sum_by-IsPermutation (λ (e : List ℕ × ℕ). is_key k e.0 e.1) es (entries c) same ∙ summed k es

      not_true : false ≢ true
      not_true e = cc

-- ---- keys alone

pub set_is_bag : (c : Content) → IsSet c → IsBag c
set_is_bag c set = record { keyed = set.keyed; fits = record { each = λ k. omega (arith, set.fits.each k) } }

each_is_one : (es : Entries) → All (λ (e : List ℕ × ℕ). e.1 ≡ 1) es → map as_one (map (λ e. e.0) es) ≡ es
each_is_one [] all = refl
each_is_one (e ∷ es) all = λ j. (e.0, sym (all 0 e (omega arith)) j) ∷ each_is_one es (λ k d lt. all (suc k) d (omega (arith, lt))) j

first_back : (ks : List (List ℕ)) → map (λ (e : List ℕ × ℕ). e.0) (map as_one ks) ≡ ks
first_back [] = refl
first_back (k ∷ ks) = ap (λ qs. k ∷ qs) (first_back ks)

all_ones : (ks : List (List ℕ)) → All (λ (e : List ℕ × ℕ). e.1 ≡ 1) (map as_one ks)
all_ones ks = All-map (λ (e : List ℕ × ℕ). e.1 ≡ 1) as_one ks (λ k d lt. refl)

ones_listed : (c : Content) → All (λ (e : List ℕ × ℕ). e.1 ≡ 1) (entries c) → (k : List ℕ) → count c k ≤ 1
ones_listed c all k = elim (found (λ e. e.1 ≡ 1) (entries c) k all) [
  | inl none ↦ omega (arith, count_listed c k, ap (λ o. unwrap_or o 0) none)
  | inr at ↦ omega (arith, count_listed c k, ap (λ o. unwrap_or o 0) at.1, at.2)
]

module _ (ks : List (List ℕ)) (es : Entries) (made : IsPermutation (map as_one ks) es) where
  -- keys that are entries once each, as a set
  pub made_set : (c : Content) → IsBag c → IsPermutation es (entries c) → IsSet c
  made_set c bag same = record { keyed = bag.keyed; fits = record { each = ones_listed c (All-permutation (λ (e : List ℕ × ℕ). e.1 ≡ 1) (map as_one ks) (entries c) (IsPermutation-trans _ es _ made same) (all_ones ks)) } }

  pub made_of_keys : (c : Content) → IsPermutation es (entries c) → IsKeysOf ks c
  made_of_keys c same = subst (λ qs. IsPermutation qs (map (λ e. e.0) (entries c))) (first_back ks) (IsPermutation-map (λ (e : List ℕ × ℕ). e.0) (map as_one ks) (entries c) (IsPermutation-trans _ es _ made same))

  -- keys of a set are its entries, once each
  pub keys_are_entries : (c : Content) → IsSet c → IsKeysOf ks c → IsPermutation es (entries c)
  keys_are_entries c set keys = IsPermutation-trans es (map as_one ks) (entries c) (IsPermutation-sym _ es made)
      (subst (λ qs. IsPermutation (map as_one ks) qs) (each_is_one (entries c) ones) (IsPermutation-map as_one ks (map (λ e. e.0) (entries c)) keys))
    where
      one : (i : ℕ) → i < length (entries c) → (get_or (entries c) i ([], 0)).1 ≡ 1
      one i lt =
          let are = bag_entries c (set_is_bag c set) in
          let counted = listed_at (entries c) i are.rising lt in
          omega (arith, (are.each i ([], 0) lt).some, set.fits.each (entry_at (entries c) i).0, count_listed c (entry_at (entries c) i).0, counted)

      ones : All (λ (e : List ℕ × ℕ). e.1 ≡ 1) (entries c)
      ones = All-from_get_or (λ (e : List ℕ × ℕ). e.1 ≡ 1) (entries c) ([], 0) one

-- ---- pairs

-- a key with a whole number that a count may be
pub record IsPair (p : List ℕ × ℤ) : Type 0 where
  pub number : ℕ
  pub is : p.1 ≡ pos number
  pub bounded : number ≤ most_of_key

abbrev unsigned : List ℕ × ℤ → List ℕ × ℕ
unsigned p = (p.0, nat_abs p.1)

unsigned_back : (es : Entries) → map unsigned (map signed es) ≡ es
unsigned_back [] = refl
unsigned_back (e ∷ es) = ap (λ fs. e ∷ fs) (unsigned_back es)

pub pairs_are_small : (pairs : List (List ℕ × ℤ)) (c : Content) → IsBag c → IsPairsOf pairs c → All IsPair pairs
pairs_are_small pairs c bag same = All-permutation IsPair (map signed (entries c)) pairs (IsPermutation-sym _ _ same)
    (All-map IsPair signed (entries c) (λ k d lt. let e = (bag_entries c bag).each k d lt in record { number = (get_or (entries c) k d).1; is = refl; bounded = e.bounded }))

module _ (pairs : List (List ℕ × ℤ)) (es : Entries) (made : IsPermutation pairs (map signed es)) where
  pub made_of_pairs : (c : Content) → IsPermutation es (entries c) → IsPairsOf pairs c
  made_of_pairs c same = IsPermutation-trans pairs (map signed es) (map signed (entries c)) made (IsPermutation-map signed es (entries c) same)

  pub pairs_are_entries : (c : Content) → IsPairsOf pairs c → IsPermutation es (entries c)
  pairs_are_entries c same = subst (λ fs. IsPermutation fs (entries c)) (unsigned_back es) (subst (λ fs. IsPermutation (map unsigned (map signed es)) fs) (unsigned_back (entries c))
      (IsPermutation-map unsigned (map signed es) (map signed (entries c)) (IsPermutation-trans _ pairs _ (IsPermutation-sym _ _ made) same)))

-- ---- one more is moved over

module _ {Y : Type 0} where
  -- the last of what is left goes to the end of what is done
  pub moved_last : (all done left : List Y) (y : Y) → IsPermutation all (done ++ (left ++ y ∷ [])) → IsPermutation all ((done ++ y ∷ []) ++ left)
  moved_last all done left y h =
      IsPermutation-trans all (done ++ (left ++ y ∷ [])) _ h
      (subst (λ ys. IsPermutation (done ++ (left ++ y ∷ [])) ys) (sym (append_assoc done (y ∷ []) left))
      (IsPermutation-append_right done (left ++ y ∷ []) (y ∷ left) (IsPermutation-to_front left y)))

  -- what holds of all holds of the last
  pub last_holds : (P : Y → Type 0) (all done left : List Y) (y : Y) → IsPermutation all (done ++ (left ++ y ∷ [])) → All P all → P y
  last_holds P all done left y h holds = All-head P y (done ++ left)
      (All-permutation P ((done ++ left) ++ y ∷ []) (y ∷ (done ++ left)) (IsPermutation-to_front (done ++ left) y)
      (subst (λ ys. All P ys) (sym (append_assoc done left (y ∷ []))) (All-permutation P all _ h holds)))

pub moved_key : (all done : Entries) (left : List (List ℕ)) (k : List ℕ) → IsPermutation all (done ++ map as_one (left ++ k ∷ [])) → IsPermutation all ((done ++ as_one k ∷ []) ++ map as_one left)
moved_key all done left k h = moved_last all done (map as_one left) (as_one k) (subst (λ (ys : Entries). IsPermutation all (done ++ ys)) (map-append as_one left (k ∷ [])) h)

pub moved_pair : (all left : List (List ℕ × ℤ)) (done : Entries) (e : List ℕ × ℕ) (p : List ℕ × ℤ) → p ≡ signed e → IsPermutation all (map signed done ++ (left ++ p ∷ [])) → IsPermutation all (map signed (done ++ e ∷ []) ++ left)
moved_pair all left done e p is h =
    subst (λ (ys : List (List ℕ × ℤ)). IsPermutation all (ys ++ left)) (sym (map-append signed done (e ∷ [])))
    (subst (λ q. IsPermutation all ((map signed done ++ q ∷ []) ++ left)) is (moved_last all (map signed done) left p h))

-- ---- entries as a bag

pub bag_of_entries : (es : Entries) → AreEntries es → length es ≤ most_keys → IsBag (of_entries es)
bag_of_entries es are few = record {
  keyed = record { keys = keys_have_form es are; few = omega (arith, few, fin.len-entries (of_entries es).held, ap (λ (xs : Entries). length xs) (entries-of_entries es are)) };
  fits = record { each = count_bounded es are };
}

pub sorted_entries : (given es : Entries) → IsPermutation given es → IsRising es → All IsEntry given → AreEntries es
sorted_entries given es same rising all = record { rising = rising; each = All-permutation IsEntry given es same all }
