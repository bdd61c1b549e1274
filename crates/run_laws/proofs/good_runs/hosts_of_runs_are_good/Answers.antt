use Rattle.run_laws.proofs.GoodRuns.{good_turns}
use Rattle.run_laws.proofs.good_runs.hosts_of_runs_are_good.Goals as goal

pub returns : goal.returns
returns c = record { good = good_turns }
