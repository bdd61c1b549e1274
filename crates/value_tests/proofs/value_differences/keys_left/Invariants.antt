use Rattle.std.proofs.Common.{◌≡◌, map, take}
use Rattle.value_tests.specs.Left.{left_of}
use Rattle.value_tests.proofs.value_differences.keys_left.Given as goal

abbrev pub invariant-loop-entry : goal.invariant-loop-entry
invariant-loop-entry l = l.keys.items ≡ map (λ e. e.0) (left_of l.others (take l.entry-index l.entries))
