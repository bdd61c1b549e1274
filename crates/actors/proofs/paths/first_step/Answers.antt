use Rattle.actors.proofs.Walks.{cut_steps}
use Rattle.actors.proofs.paths.first_step.Goals as goal

pub returns-in-Some-clause-steps : goal.returns-in-Some-clause-steps
returns-in-Some-clause-steps c = rw c.in-Some.is at (cut_steps c.args.path.now c.split_once.result c.split_once.ensures.cases)

pub returns-in-None-clause-steps : goal.returns-in-None-clause-steps
returns-in-None-clause-steps c = rw c.in-None.is at (cut_steps c.args.path.now c.split_once.result c.split_once.ensures.cases)
