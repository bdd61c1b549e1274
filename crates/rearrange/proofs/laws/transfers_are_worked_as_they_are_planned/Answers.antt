use Rattle.rearrange.proofs.TestedTransfers.{transfers_fail, transfers_pass}
use Rattle.rearrange.proofs.laws.transfers_are_worked_as_they_are_planned.Goals as goal

pub returns-clause-planned : goal.returns-clause-planned
returns-clause-planned c = transfers_pass

pub returns-clause-refused : goal.returns-clause-refused
returns-clause-refused c = transfers_fail
