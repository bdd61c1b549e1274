use Rattle.std.specs.List.Sorted.{IsPermutation}
use Rattle.std.proofs.Common.{rules, List, subst}
use Rattle.std.proofs.lemmas.List.Sorted.{IsNonDecreasingBy-from_sort_by_key, IsPermutation-map}
use Rattle.rules.specs.proposals.declared.plans.Touched.{Touched}
use Rattle.rearrange_calls.proofs.ByNumber.{each_now, sorted_now, sorted_numbered}
use Rattle.rearrange_calls.proofs.seat_order.by_number.Goals as goal

pub returns : goal.returns
returns c =
    let all = c.in_ok-all.all.items in
    let sorted = c.sort_unstable_by_key.new.self.items in
    sorted_numbered c.args.touched.now (each_now sorted) c.requires
    (subst (λ (ts : List Touched). IsPermutation ts (each_now sorted)) c.in_ok-all.ensures (IsPermutation-map (λ t. t.now) all sorted c.sort_unstable_by_key.ensures.permutation))
    (sorted_now sorted (IsNonDecreasingBy-from_sort_by_key (λ t. t.now.seat) _ c.sort_unstable_by_key.ensures.sorted (λ a r q k. search rules)))
