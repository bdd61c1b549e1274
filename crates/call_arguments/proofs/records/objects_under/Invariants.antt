use Rattle.std.proofs.Common.{ℕ, ◌<◌, List}
use Rattle.std.specs.List.{All}
use Rattle.refusals.specs.host_data.Tree.{Tree}
use Rattle.refusals.specs.host_data.View.{named}
use Rattle.refusals.proofs.host_data.ReadLists.{IsRead}
use Rattle.call_arguments.specs.Arguments.{object_in}
use Rattle.call_arguments.proofs.records.objects_under.Given as goal

abbrev pub invariant-loop-part : goal.invariant-loop-part
invariant-loop-part l = record {
  read : IsRead (λ (f : List ℕ × Tree). object_in l.kind f.1) named l.fields l.part-index l.numbers.items;
  made : All (λ n. n < l.made) l.numbers.items;
}
