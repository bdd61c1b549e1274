use Rattle.std.proofs.Common.{◌∙◌, ap}
use Rattle.std.specs.Prelude.{unwrap_or}
use Rattle.escrow.proofs.Escrow.of_instance.Goals as goal

pub returns-in-Some-clause-sums : goal.returns-in-Some-clause-sums
returns-in-Some-clause-sums c = rw (← c.self.view_is) (λ t sums. ap (λ o. unwrap_or o 0) c.in-Some.ensures.value ∙ sums.shares c.args.instance c.args.brand)

pub returns-in-None-clause-sums : goal.returns-in-None-clause-sums
returns-in-None-clause-sums c = rw (← c.self.view_is) (λ t sums. ap (λ o. unwrap_or o 0) c.in-None.ensures.value ∙ sums.shares c.args.instance c.args.brand)
