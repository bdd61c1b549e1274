use Rattle.std.proofs.Common.{◌≡◌, ◌+◌, ◌≤◌, ◌∷◌, length, take, vec_capacity}
use Rattle.offer_calls.proofs.payments.with_first.Given as goal

abbrev pub invariant-loop-other : goal.invariant-loop-other
invariant-loop-other l = record {
  all : l.all.items ≡ l.first ∷ take l.other-index l.others;
  room : 1 + length l.others ≤ vec_capacity l.all;
}
