use Rattle.vault.proofs.Steps.{last_first}
use Rattle.vault.proofs.draft.forget_all.Goals as goal

pub forget-requires : goal.forget-requires
forget-requires c = (_, _, rw (c.in-Some.ensures.items, last_first) at c.loop-movement.invariant)

pub loop-movement-preserved-in-Some : goal.loop-movement-preserved-in-Some
loop-movement-preserved-in-Some c = c.forget.ensures _ _ (rw (c.in-Some.ensures.items, last_first) at c.loop-movement.invariant)

pub loop-movement-preserved-in-Some-2 : goal.loop-movement-preserved-in-Some-2
loop-movement-preserved-in-Some-2 c = c.forget.ensures _ _ (rw (c.in-Some.ensures.items, last_first) at c.loop-movement.invariant)

pub loop-movement-preserved : goal.loop-movement-preserved
loop-movement-preserved c = c.forget.ensures _ _ (rw (c.in-Some.ensures.items, last_first) at c.loop-movement.invariant)
