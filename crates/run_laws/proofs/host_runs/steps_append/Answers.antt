use Rattle.run_laws.proofs.Appended.{appended}
use Rattle.run_laws.proofs.host_runs.steps_append.Goals as goal

pub returns : goal.returns
returns c = record { behind = appended }
