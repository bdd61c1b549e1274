use Rattle.std.proofs.Common.{◌≡◌, ◌+◌, ◌*◌, ◌≤◌, ℕ, List, map, drop}
use Rattle.refusals.specs.amount_math.Content.{count}
use Rattle.refusals.specs.amount_math.ValueView.{nat_bound}
use Rattle.value_tests.specs.Totals.{total_of}
use Rattle.value_tests.proofs.value_totals.Total.add_values.Given as goal

abbrev pub invariant-loop-value : goal.invariant-loop-value
invariant-loop-value l = record {
  each : (k : List ℕ) → count l.self k + count (total_of (map (λ v. v.now) (drop l.value-index l.values))) k ≡ count (total_of (map (λ v. v.now) l.values)) k;
  bounded : (k : List ℕ) → count l.self k ≤ l.value-index * nat_bound;
}
