use Rattle.std.proofs.Common.{◌≡◌, ◌≤◌, length, vec_len}
use Rattle.std.specs.Vec.{vec_capacity}
use Rattle.refusals.proofs.host_data.ReadLists.{IsRead}
use Rattle.refusals.specs.host_data.Amounts.{amount_data}
use Rattle.call_arguments.specs.Lists.{value_of}
use Rattle.call_arguments.proofs.lists.values.Given as goal

abbrev pub invariant-loop-amount : goal.invariant-loop-amount
invariant-loop-amount l = record {
  read : IsRead (value_of l.kind) amount_data l.amounts l.amount-index l.values.items;
  counted : vec_len l.values ≡ l.amount-index;
  room : length l.amounts ≤ vec_capacity l.values;
}
