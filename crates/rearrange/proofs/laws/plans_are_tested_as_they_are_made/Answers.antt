use Rattle.rearrange.proofs.Kept.{plan_fails, plan_passes}
use Rattle.rearrange.proofs.laws.plans_are_tested_as_they_are_made.Goals as goal

pub returns-clause-kept : goal.returns-clause-kept
returns-clause-kept c = plan_passes

pub returns-clause-refused : goal.returns-clause-refused
returns-clause-refused c = plan_fails
