use Rattle.std.proofs.Common.{◌≡◌, ◌≤◌, ◌*◌, take}
use Rattle.row_records.specs.amount_math.Entries.{most_of_key}
use Rattle.row_records.specs.amount_math.Totals.{weighed}
use Rattle.told_rights.proofs.Counts.{by_count, listing_of}
use Rattle.told_rights.proofs.sizes.size_of_elements.Given as goal

abbrev pub invariant-loop-element : goal.invariant-loop-element
invariant-loop-element l = record {
  so_far : l.total ≡ weighed by_count (take l.element-index (listing_of l.elements));
  small : l.total ≤ l.element-index * most_of_key;
}
