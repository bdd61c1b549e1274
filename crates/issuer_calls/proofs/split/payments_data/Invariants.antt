use Rattle.std.proofs.Common.{◌≡◌, ◌≤◌, ◌+◌, length, take, vec_capacity, vec_len}
use Rattle.rules.specs.Lists.{payments_from}
use Rattle.refusals.specs.host_data.View.{trees}
use Rattle.issuer_calls.proofs.split.payments_data.Given as goal

abbrev pub invariant-loop-part : goal.invariant-loop-part
invariant-loop-part l = record {
  payments : trees l.payments.items ≡ payments_from l.first (take l._part-index l.parts);
  number : l.number ≡ l.first + l._part-index;
  counted : vec_len l.payments ≡ l._part-index;
  room : length l.parts ≤ vec_capacity l.payments;
}
