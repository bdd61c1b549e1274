-- Which contents stay values of their kind: the sum that fits, what is contained in one, and nothing.
use Rattle.std.specs.Prelude.{◌≡◌, ◌≢◌, ℕ, zero, suc, ◌+◌, ◌<◌, ◌≤◌, true, false, cond, Option, Some, None, List, [], ◌∷◌, length, slice_index_or, unwrap_or, ◌*◌, refl}
use Rattle.std.proofs.Common.{sym, ◌∙◌, ap, arith}
use lib.Dec.{T}
use Rattle.std.specs.Ordering.{is_eq, is_lt, eq_by_cmp, ordering_reverse}
use Rattle.std.specs.declared.cmp.Ordering.TheVariants.{Less, Equal, Greater}
use Rattle.std.specs.Cmp.{tied_itself}
use Rattle.std.specs.FinMap as fin
use Rattle.std.specs.FinMap.{find, is_sorted}
use Rattle.std.specs.FinMap.Entries.{below_all}
use Rattle.amount_math.specs.declared.Kind.{Kind}
use Rattle.amount_math.specs.declared.Kind.TheVariants.{Nat, Set, Bag}
use Rattle.amount_math.specs.Sparse.{is_something, empty}
use Rattle.amount_math.specs.Totals.{first, second, less, equal, weighed}
use Rattle.amount_math.specs.Counted.{counted, counted-of_nat}
use Rattle.amount_math.specs.Content.{Content, Contains, key_cmp, counts, is_zero, listed, entries, count, count_listed, nothing, count-nothing, sum, count-sum, sum-of_nat, of_nat, count-of_nat, count-of_nat_unit, unit, same_content}
use Rattle.amount_math.specs.Entries.{Entries, IsRising}
use Rattle.amount_math.specs.ValueView.{IsValue, IsNat, IsSet, IsBag, IsKeyed, HasKeys, HasFew, Fits, IsOutstanding, keys_of, most_keys, most_counted, bag_bound}
use Rattle.amount_math.specs.NatLaws.{nothing_is_nat}

-- ---- how many keys what is contained has

-- each entry of one list has its key in the other
abbrev AreIn : Entries → Entries → Type 0
AreIn es fs = (k : List ℕ) → find key_cmp k fs ≡ None → find key_cmp k es ≡ None

not_none : (n : ℕ) → Some n ≢ None
not_none n e = cc

find_first : (e : List ℕ × ℕ) (es : Entries) → find key_cmp e.0 (e ∷ es) ≡ Some e.1
find_first e es = ap (λ r. cond (is_eq r) (Some e.1) (find key_cmp e.0 es)) (tied_itself counts.total e.0)

-- a key before all of them isn't found
not_found : (k q : List ℕ) (es : Entries) → key_cmp k q ≡ Less → T (below_all key_cmp q es) → find key_cmp k es ≡ None
not_found k q [] lt h = refl
not_found k q (e ∷ es) lt h =
    ap (λ r. cond (is_eq r) (Some e.1) (find key_cmp k es)) (counts.total.trans k q e.0 lt (less _ (first _ (below_all key_cmp q es) h)))
    ∙ not_found k q es lt (second (is_lt (key_cmp q e.0)) _ h)

not_found_tied : (k q : List ℕ) (es : Entries) → k ≡ q → T (below_all key_cmp q es) → find key_cmp k es ≡ None
not_found_tied k q [] is h = refl
not_found_tied k q (e ∷ es) is h =
    ap (λ r. cond (is_eq r) (Some e.1) (find key_cmp k es)) (ap (λ x. key_cmp x e.0) is ∙ less _ (first _ (below_all key_cmp q es) h))
    ∙ not_found_tied k q es is (second (is_lt (key_cmp q e.0)) _ h)

-- what isn't the first is among the rest
passes_over : (k : List ℕ) (f : List ℕ × ℕ) (fs : Entries) → eq_by_cmp key_cmp k f.0 ≡ false → find key_cmp k fs ≡ None → find key_cmp k (f ∷ fs) ≡ None
passes_over k f fs apart none = ap (λ b. cond b (Some f.1) (find key_cmp k fs)) apart ∙ none

keys_at_most : (es fs : Entries) → IsRising es → IsRising fs → AreIn es fs → length es ≤ length fs
keys_at_most [] fs g h within = omega arith
keys_at_most (e ∷ es) [] g h within = absurd (not_none e.1 (sym (find_first e es) ∙ within e.0 refl))
keys_at_most (e ∷ es) (f ∷ fs) g h within = elim (key_cmp e.0 f.0) as (λ o. key_cmp e.0 f.0 ≡ o → length (e ∷ es) ≤ length (f ∷ fs)) [
  | Less ↦ λ lt. absurd (not_none e.1 (sym (find_first e es) ∙ within e.0 (passes_over e.0 f fs (ap is_eq lt) (not_found e.0 f.0 fs lt (below f fs h)))))
  | Equal ↦ λ eq. omega (arith, keys_at_most es fs (rest e es g) (rest f fs h) (without_first eq))
  | Greater ↦ λ gt. omega (arith, keys_at_most (e ∷ es) fs g (rest f fs h) (past_first gt))
] refl
  where
    below : (x : List ℕ × ℕ) (xs : Entries) → IsRising (x ∷ xs) → T (below_all key_cmp x.0 xs)
    below x xs r = first _ (is_sorted key_cmp xs) r

    rest : (x : List ℕ × ℕ) (xs : Entries) → IsRising (x ∷ xs) → IsRising xs
    rest x xs r = second (below_all key_cmp x.0 xs) _ r

    without_first : key_cmp e.0 f.0 ≡ Equal → AreIn es fs
    without_first eq k none = elim (eq_by_cmp key_cmp k e.0) as (λ b. eq_by_cmp key_cmp k e.0 ≡ b → find key_cmp k es ≡ None) [
      | true ↦ λ t. not_found_tied k e.0 es (counts.same k e.0 (equal (key_cmp k e.0) t)) (below e es g)
      | false ↦ λ t. tail t (within k (passes_over k f fs (ap (eq_by_cmp key_cmp k) (sym (counts.same e.0 f.0 eq)) ∙ t) none))
    ] refl
      where
        tail : eq_by_cmp key_cmp k e.0 ≡ false → find key_cmp k (e ∷ es) ≡ None → find key_cmp k es ≡ None
        tail t is = sym (ap (λ b. cond b (Some e.1) (find key_cmp k es)) t) ∙ is

    past_first : key_cmp e.0 f.0 ≡ Greater → AreIn (e ∷ es) fs
    past_first gt k none = elim (eq_by_cmp key_cmp k f.0) as (λ b. eq_by_cmp key_cmp k f.0 ≡ b → find key_cmp k (e ∷ es) ≡ None) [
      | true ↦ λ t. before k (counts.same k f.0 (equal (key_cmp k f.0) t))
      | false ↦ λ t. within k (passes_over k f fs t none)
    ] refl
      where
        before : (q : List ℕ) → q ≡ f.0 → find key_cmp q (e ∷ es) ≡ None
        before q is =
            let lt : key_cmp q e.0 ≡ Less = ap (λ x. key_cmp x e.0) is ∙ counts.total.antisymm f.0 e.0 ∙ ap ordering_reverse gt in
            passes_over q e es (ap is_eq lt) (not_found q e.0 es lt (below e es g))

found_nothing : (a : Content) (k : List ℕ) → count a k ≡ 0 → fin.get a.held k ≡ None
found_nothing a k e = none (fin.get a.held k) (a.listed k) e
  where
    none : (o : Option ℕ) → T (is_something is_zero o) → unwrap_or o 0 ≡ 0 → o ≡ None
    none None p is = refl
    none (Some zero) p is = absurd p
    none (Some (suc n)) p is = absurd (omega (arith, is))

-- what is contained has at most as many keys
pub keys_within : (a b : Content) → Contains a b → keys_of b ≤ keys_of a
keys_within a b has = omega (arith, fin.len-entries a.held, fin.len-entries b.held, keys_at_most (entries b) (entries a) (fin.entries_sorted b.held) (fin.entries_sorted a.held) within)
  where
    within : AreIn (entries b) (entries a)
    within k none = sym (fin.get-entries b.held k) ∙ found_nothing b k (omega (arith, has.each k, ap (λ o. unwrap_or o 0) (fin.get-entries a.held k ∙ none)))

-- ---- keys

keys_of_sum : (a b : Content) → HasKeys a → HasKeys b → HasKeys (sum a b)
keys_of_sum a b p q = record {
  filled = omega (arith, count-sum a b unit, p.filled, q.filled);
  short = λ k some. short k (count a k) refl some;
}
  where
    short : (k : List ℕ) (n : ℕ) → count a k ≡ n → count (sum a b) k ≢ 0 → length k ≤ 64
    short k zero is some = q.short k (λ e. some (omega (arith, is, e, count-sum a b k)))
    short k (suc n) is some = p.short k (λ e. absurd (omega (arith, is, e)))

keys_of_part : (a b : Content) → Contains a b → HasKeys a → HasKeys b
keys_of_part a b has p = record {
  filled = omega (arith, has.each unit, p.filled);
  short = λ k some. p.short k (λ e. some (omega (arith, has.each k, e)));
}

-- ---- values

only_units_of_sum : (a b : Content) → IsNat a → IsNat b → Fits Nat (sum a b) → IsNat (sum a b)
only_units_of_sum a b p q fits = record {
  only_units = same_content _ _ (λ k. count-sum a b k ∙ ap (λ n. n + count b k) (ap (λ c. count c k) p.only_units) ∙ ap (λ n. count (of_nat (count a unit)) k + n) (ap (λ c. count c k) q.only_units) ∙ sym (count-sum _ _ k) ∙ ap (λ c. count c k) (sum-of_nat (count a unit) (count b unit) ∙ ap of_nat (sym (count-sum a b unit))));
  fits = fits;
}

only_units_of_part : (a b : Content) → Contains a b → IsNat a → Fits Nat b → IsNat b
only_units_of_part a b has p fits = record { only_units = same_content _ _ at; fits = fits }
  where
    none_else : (x : ℕ) (k : List ℕ) → count b (x ∷ k) ≡ 0
    none_else x k = omega (arith, has.each (x ∷ k), ap (λ c. count c (x ∷ k)) p.only_units, count-of_nat (count a unit) (x ∷ k))

    at : (k : List ℕ) → count b k ≡ count (of_nat (count b unit)) k
    at [] = sym (count-of_nat_unit (count b unit))
    at (x ∷ k) = none_else x k ∙ sym (count-of_nat (count b unit) (x ∷ k))

pub fits_part : (kind : Kind) (a b : Content) → Contains a b → Fits kind a → Fits kind b
fits_part kind a b has fits = record { each = λ k. omega (arith, has.each k, fits.each k) }

-- the sum of two values that fits and has few enough keys is a value
pub value_of_sum : (kind : Kind) (a b : Content) → IsValue kind a → IsValue kind b → Fits kind (sum a b) → HasFew kind (sum a b) → IsValue kind (sum a b)
value_of_sum Nat a b p q fits few = only_units_of_sum a b p q fits
value_of_sum Set a b p q fits few = record { keyed = record { keys = keys_of_sum a b p.keyed.keys q.keyed.keys; few = few }; fits = fits }
value_of_sum Bag a b p q fits few = record { keyed = record { keys = keys_of_sum a b p.keyed.keys q.keyed.keys; few = few }; fits = fits }

-- what a value contains is a value
pub value_of_part : (kind : Kind) (a b : Content) → Contains a b → IsValue kind a → IsValue kind b
value_of_part Nat a b has p = only_units_of_part a b has p (fits_part Nat a b has p.fits)
value_of_part Set a b has p = record { keyed = record { keys = keys_of_part a b has p.keyed.keys; few = omega (arith, keys_within a b has, p.keyed.few) }; fits = fits_part Set a b has p.fits }
value_of_part Bag a b has p = record { keyed = record { keys = keys_of_part a b has p.keyed.keys; few = omega (arith, keys_within a b has, p.keyed.few) }; fits = fits_part Bag a b has p.fits }

no_keys : keys_of nothing ≤ most_keys
unfolding empty
no_keys = omega (arith, fin.len-empty key_cmp ℕ)

nothing_is_keyed : IsKeyed nothing
nothing_is_keyed = record {
  keys = record { filled = count-nothing unit; short = λ k some. absurd (some (count-nothing k)) };
  few = no_keys;
}

pub nothing_is_set : IsSet nothing
nothing_is_set = record { keyed = nothing_is_keyed; fits = record { each = λ k. omega (arith, count-nothing k) } }

pub nothing_is_bag : IsBag nothing
nothing_is_bag = record { keyed = nothing_is_keyed; fits = record { each = λ k. omega (arith, count-nothing k) } }

pub nothing_is_value : (kind : Kind) → IsValue kind nothing
nothing_is_value Nat = nothing_is_nat
nothing_is_value Set = nothing_is_set
nothing_is_value Bag = nothing_is_bag

-- ---- how much a value counts, all elements together

each_bounded : (es : Entries) (m : ℕ) → ((k : List ℕ) → listed es k ≤ m) → IsRising es → (i : ℕ) → i < length es → (slice_index_or es i ([], 0)).1 ≤ m
each_bounded [] m all h i lt = absurd (omega (arith, lt))
each_bounded (e ∷ es) m all h zero lt = omega (arith, all e.0, ap (λ o. unwrap_or o 0) (find_first e es))
each_bounded (e ∷ es) m all h (suc i) lt = each_bounded es m rest (second (below_all key_cmp e.0 es) _ h) i (omega (arith, lt))
  where
    rest : (k : List ℕ) → listed es k ≤ m
    rest k = elim (eq_by_cmp key_cmp k e.0) as (λ b. eq_by_cmp key_cmp k e.0 ≡ b → listed es k ≤ m) [
      | true ↦ λ t. omega (arith, ap (λ o. unwrap_or o 0) (not_found_tied k e.0 es (counts.same k e.0 (equal (key_cmp k e.0) t)) (first _ (is_sorted key_cmp es) h)))
      | false ↦ λ t. omega (arith, all k, ap (λ b. unwrap_or (cond b (Some e.1) (find key_cmp k es)) 0) t)
    ] refl

weighed_ones : (es : Entries) → ((i : ℕ) → i < length es → (slice_index_or es i ([], 0)).1 ≤ 1) → weighed (λ k n. n) es ≤ length es
weighed_ones [] all = omega arith
weighed_ones (e ∷ es) all = omega (arith, all 0 (omega arith), weighed_ones es (λ i lt. all (suc i) (omega (arith, lt))))

weighed_counts : (es : Entries) → ((i : ℕ) → i < length es → (slice_index_or es i ([], 0)).1 ≤ bag_bound) → weighed (λ k n. n) es ≤ length es * bag_bound
weighed_counts [] all = omega arith
weighed_counts (e ∷ es) all = omega (arith, all 0 (omega arith), weighed_counts es (λ i lt. all (suc i) (omega (arith, lt))))

pub counted_value : (kind : Kind) (c : Content) → IsValue kind c → counted c ≤ most_counted kind
counted_value Nat c p = omega (arith, ap counted p.only_units, counted-of_nat (count c unit), p.fits.each unit)
counted_value Set c p = omega (arith, weighed_ones (entries c) (each_bounded (entries c) 1 (λ k. omega (arith, p.fits.each k, count_listed c k)) (fin.entries_sorted c.held)), fin.len-entries c.held, p.keyed.few)
counted_value Bag c p = omega (arith, weighed_counts (entries c) (each_bounded (entries c) bag_bound (λ k. omega (arith, p.fits.each k, count_listed c k)) (fin.entries_sorted c.held)), fin.len-entries c.held, p.keyed.few)

-- ---- what is out of a brand

-- a value may be out
pub value_is_outstanding : (kind : Kind) (c : Content) → IsValue kind c → IsOutstanding kind c
value_is_outstanding Nat c p = p
value_is_outstanding Set c p = record { keys = p.keyed.keys; fits = p.fits }
value_is_outstanding Bag c p = record { keys = p.keyed.keys; fits = p.fits }

pub outstanding_fits : (kind : Kind) (c : Content) → IsOutstanding kind c → Fits kind c
outstanding_fits Nat c p = p.fits
outstanding_fits Set c p = p.fits
outstanding_fits Bag c p = p.fits

pub outstanding_sum : (kind : Kind) (a b : Content) → IsOutstanding kind a → IsOutstanding kind b → Fits kind (sum a b) → IsOutstanding kind (sum a b)
outstanding_sum Nat a b p q fits = only_units_of_sum a b p q fits
outstanding_sum Set a b p q fits = record { keys = keys_of_sum a b p.keys q.keys; fits = fits }
outstanding_sum Bag a b p q fits = record { keys = keys_of_sum a b p.keys q.keys; fits = fits }

pub outstanding_part : (kind : Kind) (a b : Content) → Contains a b → IsOutstanding kind a → IsOutstanding kind b
outstanding_part Nat a b has p = only_units_of_part a b has p (fits_part Nat a b has p.fits)
outstanding_part Set a b has p = record { keys = keys_of_part a b has p.keys; fits = fits_part Set a b has p.fits }
outstanding_part Bag a b has p = record { keys = keys_of_part a b has p.keys; fits = fits_part Bag a b has p.fits }

-- a value has few enough keys
pub has_few : (kind : Kind) (c : Content) → IsValue kind c → HasFew kind c
has_few Nat c p = tt
has_few Set c p = p.keyed.few
has_few Bag c p = p.keyed.few
