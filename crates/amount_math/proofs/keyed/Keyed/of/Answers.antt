use Rattle.std.proofs.Common.{ℕ, List, length, refl, ap, sym, subst, arith, rules}
use Rattle.std.proofs.lemmas.Bool.{false≢true}
use Rattle.std.proofs.lemmas.Fn.{always_returns_same}
use Rattle.std.proofs.lemmas.List.Sorted.{IsPermutation-sym, IsPermutation-trans, length_permutation, ranks_by}
use Rattle.std.specs.List.{All}
use Rattle.std.specs.List.Sorted.{IsPermutation}
use Rattle.std.specs.Ordering.{is_lt}
use Rattle.amount_math.specs.Content.{key_cmp, counts}
use Rattle.amount_math.specs.Entries.{Entries, IsEntry, IsRising}
use Rattle.amount_math.proofs.Listed.{entries-of_entries}
use Rattle.amount_math.proofs.Permuted.{as_many, all_entries, neighbours_rise, sorted_entries, bag_of_entries}
use Rattle.amount_math.proofs.keyed.Keyed.of.Goals as goal

pub returns-then-len-clause-none : goal.returns-then-len-clause-none
returns-then-len-clause-none c = λ _ d bag same. omega (arith, as_many c.args.given.items d bag same, c.len.ensures, c.if-len.true)

pub returns-then-not-are_all-clause-none : goal.returns-then-not-are_all-clause-none
returns-then-not-are_all-clause-none c = λ _ d bag same. false≢true (c.if-not-are_all.ensures.1 (subst (All IsEntry) (sym c.deref.ensures.value) (all_entries c.args.given.items d bag same)))

pub returns-in-Some-clause-none : goal.returns-in-Some-clause-none
returns-in-Some-clause-none c = λ _ d bag same.
    let sorted = c.sort_unstable_by.ensures.sorted (λ (a b : List ℕ × ℕ). is_lt (key_cmp a.0 b.0)) (ranks_by counts.total (λ (e : List ℕ × ℕ). e.0)) (always_returns_same _ _ _ (λ a r f k. (search rules, search rules))) in
    let moved = IsPermutation-trans _ c.args.given.items _ (IsPermutation-sym _ _ c.sort_unstable_by.ensures.permutation) same in
    let at = rw c.deref-2.ensures.value at c.in-Some.ensures.found in
    at.1 (neighbours_rise c.sort_unstable_by.new.self.items d bag moved c.in-Some.field-0 at.0 sorted)

pub invariant_of-result : goal.invariant_of-result
invariant_of-result c =
    sorted_entries c.args.given.items _ c.sort_unstable_by.ensures.permutation (subst IsRising c.deref-2.ensures.value (c.in-None.ensures.none refl)) (subst (All IsEntry) c.deref.ensures.value (c.if-not-are_all.ensures.0 refl))

pub returns-in-None-clause-some : goal.returns-in-None-clause-some
returns-in-None-clause-some c =
    let are = sorted_entries c.args.given.items _ c.sort_unstable_by.ensures.permutation (subst IsRising c.deref-2.ensures.value (c.in-None.ensures.none refl)) (subst (All IsEntry) c.deref.ensures.value (c.if-not-are_all.ensures.0 refl)) in
    subst (λ (xs : Entries). IsPermutation c.args.given.items xs) (sym (entries-of_entries _ are)) c.sort_unstable_by.ensures.permutation

pub returns-in-None-clause-value : goal.returns-in-None-clause-value
returns-in-None-clause-value c =
    let are = sorted_entries c.args.given.items _ c.sort_unstable_by.ensures.permutation (subst IsRising c.deref-2.ensures.value (c.in-None.ensures.none refl)) (subst (All IsEntry) c.deref.ensures.value (c.if-not-are_all.ensures.0 refl)) in
    let len = ap (λ (xs : Entries). length xs) c.deref.ensures.value in
    bag_of_entries _ are (omega (arith, length_permutation _ _ c.sort_unstable_by.ensures.permutation, len, c.deref.ensures.len, c.len.ensures, c.if-len.false))
