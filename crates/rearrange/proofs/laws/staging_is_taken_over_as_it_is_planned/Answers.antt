use Rattle.rearrange.proofs.TestedChanges.{staged_fails, staged_passes}
use Rattle.rearrange.proofs.laws.staging_is_taken_over_as_it_is_planned.Goals as goal

pub returns-clause-planned : goal.returns-clause-planned
returns-clause-planned c = staged_passes

pub returns-clause-refused : goal.returns-clause-refused
returns-clause-refused c = staged_fails
