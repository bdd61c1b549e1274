-- Parts of a sum that is a value are values too.
use Rattle.std.proofs.Common.{◌≡◌, ◌≢◌, ℕ, zero, suc, ◌+◌, ◌<◌, ◌≤◌, Bool, true, false, cond, Some, List, [], ◌∷◌, length, map, drop, get_or, refl, sym, ap, subst, ◌∙◌, inl, inr, arith}
use lib.Dec.{T}
use Rattle.std.specs.Borrow.{Bor}
use Rattle.std.specs.FinMap as fin
use Rattle.std.proofs.lemmas.List.{drop_all, drop_more}
use Rattle.refusals.specs.amount_math.Content.{Content, combined, count, count-sum, counts, entries, is_zero, nothing, sum, sum-assoc}
use Rattle.refusals.specs.amount_math.Entries.{Entries, entry_at}
use Rattle.refusals.specs.amount_math.Sparse.{is_something, put, put_by}
use Rattle.refusals.specs.amount_math.ValueView.{Fits, HasFew, IsPutRefusal, ValueView, keys_of, most_keys}
use Rattle.refusals.specs.amount_math.declared.Kind.{Kind}
use Rattle.refusals.specs.amount_math.declared.Kind.TheVariants.{Nat, Set, Bag}
use Rattle.refusals.specs.amount_math.declared.PutFault.{PutFault}
use Rattle.refusals.specs.amount_math.declared.PutFault.TheVariants as put_fault
use Rattle.refusals.specs.amount_math.declared.TooMuch.{TooMuch}
use Rattle.refusals.proofs.amount_math.Listed.{found_at}
use Rattle.value_tests.specs.Totals.{total_of}
use Rattle.value_tests.specs.Sums.{CanAdd}

-- ---- more has no fewer keys

more_with : (m : Content) (k : List ℕ) (x : ℕ) → 0 < x → keys_of m ≤ keys_of (put counts m k x)
unfolding put put_by
more_with m k zero h = absurd (omega (arith, h))
more_with m k (suc n) h = omega (arith, fin.len-insert counts.total m.held k (suc n), at_least (fin.contains_key m.held k) (keys_of m))
  where
    at_least : (b : Bool) (n : ℕ) → n ≤ cond b n (n + 1)
    at_least true n = omega arith
    at_least false n = omega arith

keys_more : (c : Content) (es : Entries) → ((i : ℕ) → i < length es → 0 < (entry_at es i).1) → keys_of c ≤ keys_of (combined (λ m n. m + n) c es)
keys_more c [] some = omega arith
keys_more c (e ∷ es) some =
    let here : 0 < e.1 = some 0 (omega arith) in
    omega (arith, keys_more c es (λ i lt. some (suc i) (omega (arith, lt))), more_with (combined (λ m n. m + n) c es) e.0 (count c e.0 + e.1) (omega (arith, here)))

entry_some : (c : Content) (i : ℕ) → i < length (entries c) → 0 < (entry_at (entries c) i).1
entry_some c i lt =
    let e = entry_at (entries c) i in
    some e.1 (subst (λ o. T (is_something is_zero o)) (fin.get-entries c.held e.0 ∙ found_at (entries c) i (fin.entries_sorted c.held) lt) (c.listed e.0))
  where
    some : (n : ℕ) → T (is_something is_zero (Some n)) → 0 < n
    some zero h = absurd h
    some (suc n) h = omega arith

keys_in_sum : (a b : Content) → keys_of a ≤ keys_of (sum a b)
unfolding sum
keys_in_sum a b = keys_more a (entries b) (entry_some b)

-- ---- so a part of what has few keys has few, and of what fits fits

few_in_sum : (kind : Kind) (a b : Content) → HasFew kind (sum a b) → HasFew kind a
few_in_sum Nat a b h = tt
few_in_sum Set a b h = omega (arith, h, keys_in_sum a b)
few_in_sum Bag a b h = omega (arith, h, keys_in_sum a b)

fits_in_sum : (kind : Kind) (a b : Content) → Fits kind (sum a b) → Fits kind a
fits_in_sum kind a b h = record { each = λ k. omega (arith, h.each k, count-sum a b k) }

pub can_add : (kind : Kind) (a b : ValueView) (rest whole : Content) → a.kind ≡ kind → sum a.content (sum b.content rest) ≡ whole → Fits kind whole → HasFew kind whole → CanAdd a b
can_add kind a b rest whole same is fits few =
    let all = sum-assoc a.content b.content rest ∙ is in
    let fits_part = fits_in_sum kind (sum a.content b.content) rest (subst (λ c. Fits kind c) (sym all) fits) in
    let few_part = few_in_sum kind (sum a.content b.content) rest (subst (λ c. HasFew kind c) (sym all) few) in
    record {
      fits = subst (λ k. Fits k (sum a.content b.content)) (sym same) fits_part;
      few = subst (λ k. HasFew k (sum a.content b.content)) (sym same) few_part;
    }

-- what can be added is refused for want of memory alone
pub only_memory : (a b : ValueView) (fault : PutFault) → CanAdd a b → IsPutRefusal a.kind (sum a.content b.content) fault → fault ≡ put_fault.NoMemory
only_memory a b (put_fault.Overlap key) can h = let fits = subst (λ k. Fits k (sum a.content b.content)) h.0 can.fits in absurd (omega (arith, fits.each key, h.1.passes))
only_memory a b (put_fault.TooMuch over) can h = elim h as (λ _. put_fault.TooMuch over ≡ put_fault.NoMemory) [
  | inl p ↦ absurd (omega (arith, p.1.passes, can.fits.each p.1.element))
  | inr p ↦ absurd (many a.kind (sum a.content b.content) p.0 can.few p.1.passes)
]
  where
    many : (kind : Kind) (c : Content) → kind ≢ Nat → HasFew kind c → most_keys < keys_of c → ⊥
    many Nat c ne few over = ne refl
    many Set c ne few over = omega (arith, few, over)
    many Bag c ne few over = omega (arith, few, over)
only_memory a b put_fault.NoMemory can h = refl

-- ---- value by value

abbrev Lent : Type 0
Lent = List (Bor ValueView)

abbrev values_now : Lent → List ValueView
values_now vs = map (λ v. v.now) vs

pub total_next : (vs : Lent) (i : ℕ) (v : Bor ValueView) → i < length vs → v ≡ get_or vs i v → total_of (values_now (drop i vs)) ≡ sum v.now.content (total_of (values_now (drop (i + 1) vs)))
total_next vs i v lt at = ap (λ us. total_of (values_now us)) (drop_more vs i v lt ∙ ap (λ u. u ∷ drop (i + 1) vs) (sym at))

pub total_ends : (vs : Lent) (i : ℕ) → length vs ≤ i → total_of (values_now (drop i vs)) ≡ nothing
total_ends vs i past = ap (λ us. total_of (values_now us)) (drop_all i vs past)

pub not_too_much : (a b : ValueView) (over : TooMuch) → CanAdd a b → IsPutRefusal a.kind (sum a.content b.content) (put_fault.TooMuch over) → ⊥
not_too_much a b over can h = let e = only_memory a b (put_fault.TooMuch over) can h in cc
