use Rattle.std.proofs.Common.{◌≤◌, ◌+◌, ◌++◌, map, vec_len}
use Rattle.std.specs.Vec.{vec_capacity}
use Rattle.std.specs.List.Sorted.{IsPermutation}
use Rattle.amount_math.specs.KindData.{signed}
use Rattle.amount_math.proofs.made.each_counted.Given as goal

abbrev pub invariant-loop-pair : goal.invariant-loop-pair
invariant-loop-pair l = record {
  same : IsPermutation l.fn.pairs.items (map signed l.made.items ++ l.pairs.items);
  room : vec_len l.made + vec_len l.pairs ≤ vec_capacity l.made;
}

abbrev pub decreases-loop-pair : goal.decreases-loop-pair
decreases-loop-pair l = vec_len l.pairs
