use Rattle.std.proofs.Common.{◌<◌}
use Rattle.std.specs.List.{All}
use Rattle.refusals.specs.host_data.View.{tree}
use Rattle.refusals.proofs.host_data.ReadLists.{IsRead}
use Rattle.call_arguments.specs.Arguments.{object_in}
use Rattle.call_arguments.proofs.lists.objects_in.Given as goal

abbrev pub invariant-loop-item : goal.invariant-loop-item
invariant-loop-item l = record {
  read : IsRead (object_in l.kind) tree l.items l.item-index l.numbers.items;
  made : All (λ n. n < l.made) l.numbers.items;
}
