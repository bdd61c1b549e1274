use Rattle.refusals.proofs.Plainly.{free, in_order, nests, none_local, ordered, plain, shallow}
use Rattle.refusals.proofs.laws.refusals_are_plain.Goals as goal

pub returns-clause-plain : goal.returns-clause-plain
returns-clause-plain c = plain

pub returns-clause-free : goal.returns-clause-free
returns-clause-free c = free

pub returns-clause-in_order : goal.returns-clause-in_order
returns-clause-in_order c = in_order

pub returns-clause-shallow : goal.returns-clause-shallow
returns-clause-shallow c = shallow

pub returns-clause-not_local : goal.returns-clause-not_local
returns-clause-not_local c = none_local

pub returns-clause-ordered : goal.returns-clause-ordered
returns-clause-ordered c = ordered

pub returns-clause-nests : goal.returns-clause-nests
returns-clause-nests c = nests
