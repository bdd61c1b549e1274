use Rattle.std.proofs.Common.{subst}
use Rattle.jessie_semantics.specs.host_data.View.{tree}
use Rattle.jessie_index.specs.jessie_values.Outcomes.{Gives}
use Rattle.jessie_machine.proofs.Exits.{worked_as_ok, worked_as_fault}
use Rattle.jessie_machine.proofs.built_ins.value_or_fault.Goals as goal

pub returns-in-Ok : goal.returns-in-Ok
returns-in-Ok c = λ s r h. worked_as_ok _ _ (subst (λ x. Gives tree x r) c.in-Ok.is h)

pub returns-in-Err : goal.returns-in-Err
returns-in-Err c = λ s r h. worked_as_fault _ _ _ (subst (λ x. Gives tree x r) c.in-Err.is h) c.fault_stop.ensures
