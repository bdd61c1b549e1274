use Rattle.std.proofs.Common.{ap, sym, ◌∙◌}
use Rattle.jessie_semantics.specs.host_data.View.{tree}
use Rattle.jessie_index.specs.jessie_values.Outcomes.{seen}
use Rattle.jessie_machine.proofs.Exits.{worked_as_ok, worked_as_err}
use Rattle.jessie_machine.proofs.built_ins.value_or_bad.Goals as goal

pub returns-in-Ok : goal.returns-in-Ok
returns-in-Ok c = λ s r h. worked_as_ok _ _ (sym h ∙ ap (λ x. seen tree x) c.in-Ok.is)

pub returns-in-Err : goal.returns-in-Err
returns-in-Err c = λ s r h. worked_as_err _ _ _ (sym h ∙ ap (λ x. seen tree x) c.in-Err.is) c.bad.ensures
