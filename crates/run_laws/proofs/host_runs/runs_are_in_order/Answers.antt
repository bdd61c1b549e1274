use Rattle.run_laws.proofs.RunOrder.{runs_in_order}
use Rattle.run_laws.proofs.host_runs.runs_are_in_order.Goals as goal

pub returns : goal.returns
returns c = record { in_order = runs_in_order }
