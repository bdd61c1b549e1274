use Rattle.std.proofs.Common.{sym}
use Rattle.jessie_semantics.specs.host_data.View.{tree}
use Rattle.jessie_semantics.proofs.Runs.{then_computes}
use Rattle.jessie_machine.proofs.Exits.{stops_here, pure_as}
use Rattle.jessie_machine.proofs.machine.read_literal.Goals as goal

pub returns-in_err-take-clause-does : goal.returns-in_err-take-clause-does
returns-in_err-take-clause-does c = λ names values. stops_here tree _ _ _ c.from_residual.ensures.1 (c.in_err-take.ensures.does _ _)

pub returns-in_err-take_literal-clause-does : goal.returns-in_err-take_literal-clause-does
returns-in_err-take_literal-clause-does c = λ names values. then_computes _ (c.in_ok-take.ensures.does _ _) (stops_here tree _ _ _ c.from_residual-in_err-take_literal.ensures.1 (c.in_err-take_literal.ensures.does _ _))

pub returns-clause-does : goal.returns-clause-does
returns-clause-does c = λ names values. then_computes _ (c.in_ok-take.ensures.does _ _) (then_computes _ (c.in_ok-take_literal.ensures.does _ _) (pure_as _ _ (sym c.in_ok-data.ensures)))
