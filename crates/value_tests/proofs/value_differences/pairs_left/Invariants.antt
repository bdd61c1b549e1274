use Rattle.std.proofs.Common.{◌≡◌, map, take}
use Rattle.refusals.specs.amount_math.KindData.{signed}
use Rattle.value_tests.specs.Left.{left_of}
use Rattle.value_tests.proofs.value_differences.pairs_left.Given as goal

abbrev pub invariant-loop-entry : goal.invariant-loop-entry
invariant-loop-entry l = l.pairs.items ≡ map signed (left_of l.others (take l.entry-index l.entries))
