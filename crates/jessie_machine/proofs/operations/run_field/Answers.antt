use Rattle.jessie_semantics.specs.host_data.View.{tree}
use Rattle.std.proofs.Common.{ap, sym}
use Rattle.jessie_index.specs.jessie_values.Accesses.{field_at}
use Rattle.jessie_semantics.specs.Rules.{worked}
use Rattle.jessie_semantics.proofs.Runs.{then_computes, computes_as}
use Rattle.jessie_machine.proofs.Exits.{stops_here}
use Rattle.jessie_machine.proofs.operations.run_field.Goals as goal

pub returns-in_err-take-clause-does : goal.returns-in_err-take-clause-does
returns-in_err-take-clause-does c = λ names values. stops_here tree _ _ _ c.from_residual.ensures.1 (c.in_err-take.ensures.does _ _)

pub returns-clause-does : goal.returns-clause-does
returns-clause-does c = λ names values. then_computes _ (c.in_ok-take.ensures.does _ _) (computes_as (ap (λ x. worked (field_at x (tree c.args.target))) (sym c.as_str.ensures)) (c.read_field.ensures _))
