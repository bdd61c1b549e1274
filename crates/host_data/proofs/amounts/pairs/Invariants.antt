use Rattle.std.proofs.Common.{◌≡◌, ◌≤◌, length, vec_len}
use Rattle.std.specs.Vec.{vec_capacity}
use Rattle.host_data.specs.View.{tree}
use Rattle.host_data.specs.Amounts.{pair_in}
use Rattle.host_data.proofs.ReadLists.{IsRead}
use Rattle.host_data.proofs.amounts.pairs.Given as goal

abbrev pub invariant-loop-item : goal.invariant-loop-item
invariant-loop-item l = record {
  read : IsRead pair_in tree l.items l.item-index l.pairs.items;
  counted : vec_len l.pairs ≡ l.item-index;
  room : length l.items ≤ vec_capacity l.pairs;
}
