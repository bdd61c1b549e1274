use Rattle.std.proofs.Common.{◌≡◌, ◌≤◌, length, take, vec_len}
use Rattle.std.specs.Vec.{vec_capacity}
use Rattle.amount_math.proofs.merges.copied.Given as goal

abbrev pub invariant-loop-entry : goal.invariant-loop-entry
invariant-loop-entry l = record {
  same : l.copy.items ≡ take l.entry-index l.entry-items;
  counted : vec_len l.copy ≡ l.entry-index;
  room : length l.entry-items ≤ vec_capacity l.copy;
}
