use Rattle.std.proofs.Common.{refl}
use Rattle.store_tests.proofs.escrow_tests.mint.Goals as goal

pub tell-requires-clause-can : goal.tell-requires-clause-can
tell-requires-clause-can g c = record { table = c.requires.told.0; sums = c.requires.told.1; defined = record { has = λ inside. absurd (inside refl) } }
