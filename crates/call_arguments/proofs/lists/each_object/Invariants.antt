use Rattle.std.proofs.Common.{◌≡◌, ◌<◌, ◌+◌, drop}
use Rattle.std.specs.List.{All}
use Rattle.refusals.specs.host_data.View.{trees}
use Rattle.call_arguments.specs.Lists.{each_object}
use Rattle.call_arguments.proofs.Each.{with_before}
use Rattle.call_arguments.proofs.lists.each_object.Given as goal

abbrev pub invariant-loop-i : goal.invariant-loop-i
invariant-loop-i l = record {
  read : each_object l.kind 1 (trees l.args) ≡ with_before l.numbers.items (each_object l.kind (l.i + 1) (trees (drop l.i l.args)));
  made : All (λ n. n < l.made) l.numbers.items;
}
