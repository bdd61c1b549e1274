use Rattle.host_data.proofs.Nodes.{free, not_local}
use Rattle.host_data.proofs.laws.locality_is_of_nodes.Goals as goal

pub returns-clause-free : goal.returns-clause-free
returns-clause-free c = free

pub returns-clause-not_local : goal.returns-clause-not_local
returns-clause-not_local c = not_local
