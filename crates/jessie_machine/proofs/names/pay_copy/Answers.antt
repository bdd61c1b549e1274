use Rattle.std.proofs.Common.{ap, ◌∙◌, Some}
use Rattle.jessie_semantics.specs.host_data.View.{tree}
use Rattle.jessie_semantics.proofs.host_data.Views.{tree-Number}
use Rattle.jessie_semantics.specs.Actions.{paid}
use Rattle.jessie_semantics.proofs.Runs.{computes_as}
use Rattle.jessie_machine.proofs.names.pay_copy.Goals as goal

pub returns-in-Number-clause-does : goal.returns-in-Number-clause-does
returns-in-Number-clause-does c = λ t locals globals. computes_as (ap (λ d. paid t (Some (tree d))) c.in-Number.is ∙ ap (λ d. paid t (Some d)) (tree-Number c.in-Number.number)) (c.pay_number.ensures.does t locals globals)
