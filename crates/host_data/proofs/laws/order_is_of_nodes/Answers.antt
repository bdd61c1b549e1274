use Rattle.host_data.proofs.Nodes.{ordered, in_order_throughout}
use Rattle.host_data.proofs.laws.order_is_of_nodes.Goals as goal

pub returns-clause-each : goal.returns-clause-each
returns-clause-each c = ordered

pub returns-clause-ordered : goal.returns-clause-ordered
returns-clause-ordered c = in_order_throughout
