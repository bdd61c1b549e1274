use Rattle.std.proofs.Common.{reverse, vec_len}
use Rattle.vault.specs.Forgetting.{IsForgetting}
use Rattle.vault.proofs.draft.forget_all.Given as goal

abbrev pub invariant-loop-movement : goal.invariant-loop-movement
invariant-loop-movement l = IsForgetting l.initial.stores l.stores (reverse l.movements.items)

abbrev pub decreases-loop-movement : goal.decreases-loop-movement
decreases-loop-movement l = vec_len l.movements
