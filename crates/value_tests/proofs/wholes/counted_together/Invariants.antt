use Rattle.std.proofs.Common.{◌≡◌, ◌+◌, ◌*◌, ◌≤◌, map, drop}
use Rattle.refusals.specs.amount_math.Counted.{counted}
use Rattle.refusals.specs.amount_math.ValueView.{nat_bound}
use Rattle.value_tests.specs.Totals.{total_of}
use Rattle.value_tests.proofs.wholes.counted_together.Given as goal

abbrev pub invariant-loop-value : goal.invariant-loop-value
invariant-loop-value l = record {
  all : l.together + counted (total_of (map (λ v. v.now) (drop l.value-index l.values))) ≡ counted (total_of (map (λ v. v.now) l.values));
  small : l.together ≤ l.value-index * nat_bound;
}
