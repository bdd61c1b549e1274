use Rattle.std.proofs.Common.{◌≡◌, map, drop}
use Rattle.refusals.specs.amount_math.Content.{sum}
use Rattle.value_tests.specs.Totals.{total_of}
use Rattle.value_tests.proofs.value_sums.sum_of.Given as goal

abbrev pub invariant-loop-value : goal.invariant-loop-value
invariant-loop-value l = record {
  kind : l.whole.kind ≡ l.fn.kind;
  content : sum l.whole.content (total_of (map (λ v. v.now) (drop l.value-index l.values))) ≡ total_of (map (λ v. v.now) l.values);
}
