use Rattle.fair_laws.proofs.Fair.{leaves_nothing, steady_first}
use Rattle.fair_laws.proofs.fair_deliveries.new_hosts_leave_nothing.Goals as goal

pub returns-clause-leaves : goal.returns-clause-leaves
returns-clause-leaves c = leaves_nothing

pub returns-clause-steady : goal.returns-clause-steady
returns-clause-steady c = λ meter. steady_first
