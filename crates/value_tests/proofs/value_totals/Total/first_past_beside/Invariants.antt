use Rattle.std.proofs.Common.{◌≡◌, map}
use Rattle.std.specs.List.{find}
use Rattle.std.specs.Prelude.{nat_lt}
use Rattle.refusals.specs.amount_math.Content.{count, sum}
use Rattle.transit.specs.Transit.{supply_in}
use Rattle.value_tests.specs.Firsts.{elements}
use Rattle.value_tests.specs.Listing.{listing}
use Rattle.value_tests.proofs.value_totals.Total.first_past_beside.Given as goal

abbrev pub invariant-loop-element : goal.invariant-loop-element
invariant-loop-element l =
    (goal.iterator-loop-element).can_next l.element-iterator ×
    (goal.iterator-loop-element).is_finite l.element-iterator ×
    (find (λ k. nat_lt l.most (count (sum (supply_in l.supply l.brand).outstanding.content l.self) k)) (map (λ e. e.0) (listing l.element-iterator)) ≡ find (λ k. nat_lt l.most (count (sum (supply_in l.supply l.brand).outstanding.content l.self) k)) (elements l.self))
