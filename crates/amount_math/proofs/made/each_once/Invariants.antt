use Rattle.std.proofs.Common.{◌≤◌, ◌+◌, ◌++◌, map, vec_len}
use Rattle.std.specs.Vec.{vec_capacity}
use Rattle.std.specs.List.Sorted.{IsPermutation}
use Rattle.amount_math.specs.Entries.{as_one}
use Rattle.amount_math.proofs.made.each_once.Given as goal

abbrev pub invariant-loop-key : goal.invariant-loop-key
invariant-loop-key l = record {
  same : IsPermutation (map as_one l.fn.keys.items) (l.made.items ++ map as_one l.keys.items);
  room : vec_len l.made + vec_len l.keys ≤ vec_capacity l.made;
}

abbrev pub decreases-loop-key : goal.decreases-loop-key
decreases-loop-key l = vec_len l.keys
