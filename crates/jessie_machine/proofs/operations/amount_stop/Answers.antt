use Rattle.std.proofs.Common.{subst}
use Rattle.jessie_semantics.specs.refusals.Outcomes.{Fails}
use Rattle.jessie_machine.proofs.Exits.{counted_as_thrown, unfinished_computes}
use Rattle.jessie_machine.proofs.operations.amount_stop.Goals as goal

pub returns-in-NoMemory : goal.returns-in-NoMemory
returns-in-NoMemory c = λ s given h. unfinished_computes

pub returns-in-Ok : goal.returns-in-Ok
returns-in-Ok c = λ s given h. counted_as_thrown given c.in-Refused.refusal _ _ (subst (λ f. Fails f given) c.in-Refused.is h) c.in-Ok.ensures.table c.throw_data.ensures

pub returns-in-Err : goal.returns-in-Err
returns-in-Err c = λ s given h. unfinished_computes
