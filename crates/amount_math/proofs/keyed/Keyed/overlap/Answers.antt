use Rattle.std.proofs.Common.{arith}
use Rattle.amount_math.specs.Entries.{entry_at}
use Rattle.amount_math.proofs.keyed.Keyed.overlap.Goals as goal

pub returns-in-Ok-clause-sure : goal.returns-in-Ok-clause-sure
returns-in-Ok-clause-sure c = rw (← c.entries.ensures.content, ← c.entries-others.ensures.content) (λ fits. absurd (omega (arith, c.in-Some.ensures.first.passes, fits.each (entry_at c.entries-others.result.now c.in-Some.at).0)))

pub returns-in-Err-clause-sure : goal.returns-in-Err-clause-sure
returns-in-Err-clause-sure c = rw (← c.entries.ensures.content, ← c.entries-others.ensures.content) (λ fits. absurd (omega (arith, c.in-Some.ensures.first.passes, fits.each (entry_at c.entries-others.result.now c.in-Some.at).0)))
