use Rattle.host_data.proofs.Nodes.{shallow, nested}
use Rattle.host_data.proofs.laws.nesting_is_of_nodes.Goals as goal

pub returns-clause-shallow : goal.returns-clause-shallow
returns-clause-shallow c = shallow

pub returns-clause-nested : goal.returns-clause-nested
returns-clause-nested c = nested
