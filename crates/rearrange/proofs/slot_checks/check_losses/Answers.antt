use Rattle.std.proofs.Common.{Result, subst}
use Rattle.refusals.specs.Outcomes.{Gives}
use Rattle.refusals.specs.declared.codes.Refusal.{Refusal}
use Rattle.rearrange.proofs.Taken.{taken_each}
use Rattle.rearrange.proofs.slot_checks.check_losses.Goals as goal

pub returns : goal.returns
returns c = subst (λ (t : Result (Unit {0}) Refusal). Gives (λ _. tt) c.check_covered.result t) (taken_each c.args.slots.now c.args.losses.now) c.check_covered.ensures
