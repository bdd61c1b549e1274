use Rattle.std.proofs.Common.{drop}
use Rattle.draft_effects.specs.Sums.{IsAdding}
use Rattle.draft_effects.proofs.payment_combinations.whole_value.Given as goal

abbrev pub invariant-loop-movement : goal.invariant-loop-movement
invariant-loop-movement l = IsAdding l.whole l.moves (drop l.movement-index l.others)
