use Rattle.std.proofs.Common.{◌≡◌, ◌≤◌, take}
use Rattle.amount_math.specs.Totals.{weighed}
use Rattle.amount_math.specs.Content.{of_entries}
use Rattle.amount_math.proofs.Together.{new_in}
use Rattle.amount_math.proofs.entries.new_keys.Given as goal

abbrev pub invariant-loop-entry : goal.invariant-loop-entry
invariant-loop-entry l = record {
  so_far : l.keys ≡ weighed (new_in (of_entries l.entries)) (take l.entry-index l.more);
  small : l.keys ≤ l.entry-index;
}
