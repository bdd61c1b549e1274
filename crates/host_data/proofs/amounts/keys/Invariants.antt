use Rattle.std.proofs.Common.{◌≡◌, ◌≤◌, length, vec_len}
use Rattle.std.specs.Vec.{vec_capacity}
use Rattle.host_data.specs.Tree.{text_of}
use Rattle.host_data.specs.View.{tree}
use Rattle.host_data.proofs.ReadLists.{IsRead}
use Rattle.host_data.proofs.amounts.keys.Given as goal

abbrev pub invariant-loop-item : goal.invariant-loop-item
invariant-loop-item l = record {
  read : IsRead text_of tree l.items l.item-index l.keys.items;
  counted : vec_len l.keys ≡ l.item-index;
  room : length l.items ≤ vec_capacity l.keys;
}
