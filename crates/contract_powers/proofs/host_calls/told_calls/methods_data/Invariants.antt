use Rattle.std.proofs.Common.{◌≡◌, ◌++◌, length}
use Rattle.std.specs.Vec.Iter.{into_iter_items, into_iter_len}
use Rattle.contract_powers.proofs.Methods.{named_functions}
use Rattle.refusals.specs.host_data.View.{named_trees}
use Rattle.contract_powers.proofs.host_calls.told_calls.methods_data.Given as goal

abbrev pub invariant-loop-method : goal.invariant-loop-method
invariant-loop-method l = record {
  can : (goal.iterator-loop-method).can_next l.method-iterator;
  finite : (goal.iterator-loop-method).is_finite l.method-iterator;
  made : named_trees l.made.items ++ named_functions (into_iter_items l.method-iterator) ≡ named_functions l.fn.methods.items;
  left : into_iter_len l.method-iterator ≡ length (into_iter_items l.method-iterator);
}
