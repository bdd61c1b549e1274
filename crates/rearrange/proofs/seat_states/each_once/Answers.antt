use Rattle.std.proofs.Common.{◌<◌, ◌==◌, ℕ, eqb, sym, ap, ◌∙◌, subst}
use Rattle.std.specs.List.{AllPairs, dedup, list_any}
use Rattle.std.proofs.lemmas.List.Filters.{dedup_is}
use Rattle.std.proofs.lemmas.List.Kept.{AllPairs-from_increasing}
use Rattle.std.proofs.lemmas.List.Sorted.{list_any-IsPermutation}
use Rattle.std.proofs.lemmas.Map.Keys.{IsStrictlyIncreasing-dedup}
use Rattle.rearrange.proofs.Ascending.{any_once}
use Rattle.rearrange.proofs.seat_states.each_once.Goals as goal

pub returns-clause-order : goal.returns-clause-order
returns-clause-order c =
    let sorted = c.sort_unstable.new.self.items in
    subst (AllPairs (λ (m n : ℕ). m < n)) (sym (dedup_is eqb sorted c.dedup.new.self.items c.dedup.ensures.filtered))
    (AllPairs-from_increasing (dedup eqb sorted) (IsStrictlyIncreasing-dedup sorted c.sort_unstable.ensures.sorted))

pub returns-clause-same : goal.returns-clause-same
returns-clause-same c = λ n.
    let sorted = c.sort_unstable.new.self.items in
    ap (list_any (λ (m : ℕ). m == n)) (dedup_is eqb sorted c.dedup.new.self.items c.dedup.ensures.filtered)
    ∙ any_once n sorted
    ∙ sym (list_any-IsPermutation (λ (m : ℕ). m == n) c.args.seats.items sorted c.sort_unstable.ensures.permutation)
