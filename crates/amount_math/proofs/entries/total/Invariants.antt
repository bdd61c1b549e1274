use Rattle.std.proofs.Common.{◌≡◌, ◌≤◌, ◌*◌, take}
use Rattle.amount_math.specs.Totals.{weighed}
use Rattle.amount_math.specs.Entries.{most_of_key}
use Rattle.amount_math.proofs.entries.total.Given as goal

abbrev pub invariant-loop-entry : goal.invariant-loop-entry
invariant-loop-entry l = record {
  so_far : l.total ≡ weighed (λ k n. n) (take l.entry-index l.entries);
  small : l.total ≤ l.entry-index * most_of_key;
}
