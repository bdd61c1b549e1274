use Rattle.std.proofs.Common.{◌≡◌, ◌+◌, ◌≤◌, ℕ, List, reverse, vec_len}
use Rattle.std.specs.List.{All}
use Rattle.std.specs.Vec.{vec_capacity}
use Rattle.amount_math.specs.Entries.{ArePoured, IsEntry, IsRaised, tally}
use Rattle.amount_math.proofs.merges.pour.Given as goal

abbrev pub invariant-loop-entry : goal.invariant-loop-entry
invariant-loop-entry l = record {
  poured : ArePoured l.left.items l.right.items (reverse l.poured.items);
  raised : All IsRaised (reverse l.poured.items);
  left : All IsEntry l.left.items;
  right : All IsEntry l.right.items;
  room : vec_len l.left + vec_len l.right + vec_len l.poured ≤ vec_capacity l.poured;
  same : (k : List ℕ) → tally l.left.items k + tally l.right.items k + tally (reverse l.poured.items) k ≡ tally l.fn.left.items k + tally l.fn.right.items k;
}

abbrev pub decreases-loop-entry : goal.decreases-loop-entry
decreases-loop-entry l = vec_len l.left + vec_len l.right
