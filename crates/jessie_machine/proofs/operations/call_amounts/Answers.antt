use Rattle.std.proofs.Common.{ap, sym}
use Rattle.jessie_semantics.specs.host_data.View.{trees}
use Rattle.jessie_semantics.specs.AmountMath.{amount_call}
use Rattle.jessie_semantics.specs.Rules.{counted}
use Rattle.jessie_semantics.proofs.Runs.{computes_as}
use Rattle.jessie_machine.proofs.Exits.{counted_as_ok}
use Rattle.jessie_machine.proofs.operations.call_amounts.Goals as goal

pub returns-in-Ok : goal.returns-in-Ok
returns-in-Ok c = λ s. computes_as (ap (λ x. counted (amount_call x (trees c.args.args.now))) (sym c.as_str.ensures)) (counted_as_ok _ _ c.in-Ok.ensures)

pub returns-in-Err : goal.returns-in-Err
returns-in-Err c = λ s. computes_as (ap (λ x. counted (amount_call x (trees c.args.args.now))) (sym c.as_str.ensures)) (c.amount_stop-stop.ensures s _ c.in-Err.ensures)
