use Rattle.run_laws.proofs.RunsFair.{run_leaves}
use Rattle.run_laws.proofs.fair_run_laws.runs_leave_their_worlds.Goals as goal

pub returns : goal.returns
returns c = record { leaves = λ read meter most input gives few. run_leaves read gives meter most input few }
