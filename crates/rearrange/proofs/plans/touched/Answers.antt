use Rattle.std.proofs.Common.{List, length, refl, ap, arith}
use Rattle.proposals.specs.declared.allocations.Share.{Share}
use Rattle.rearrange.proofs.plans.touched.Goals as goal

pub returns-in-Ok-clause-few : goal.returns-in-Ok-clause-few
returns-in-Ok-clause-few c = omega (arith, ap (λ (shares : List Share). length shares) c.in_ok-after.ensures.ok, c.in_ok-after.ensures.few refl)
