use Rattle.std.proofs.Common.{◌≡◌, length}
use Rattle.std.specs.Vec.Iter.{into_iter_items, into_iter_len}
use Rattle.jessie_machine.specs.host_data.View.{trees}
use Rattle.jessie_machine.specs.Machine.{changes}
use Rattle.jessie_interpreter.specs.Outcomes.{kept}
use Rattle.jessie_interpreter.proofs.Ends.{kept_from}
use Rattle.jessie_interpreter.proofs.evaluation.keep_changes.Given as goal

abbrev pub invariant-changes : goal.invariant-changes
invariant-changes l = record {
  is : kept_from (trees l.values.items) l.place (changes (into_iter_items l.changed)) ≡ kept (trees l.fn.values.items) (changes l.fn.changed.items);
  count : length (into_iter_items l.changed) ≡ into_iter_len l.changed;
}

abbrev pub decreases-changes : goal.decreases-changes
decreases-changes l = length (into_iter_items l.changed)
