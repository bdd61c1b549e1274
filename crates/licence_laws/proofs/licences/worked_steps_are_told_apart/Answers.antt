use Rattle.licence_laws.proofs.WorkedSteps.{are_licensed, are_not_licensed}
use Rattle.licence_laws.proofs.licences.worked_steps_are_told_apart.Goals as goal

pub returns-clause-licensed : goal.returns-clause-licensed
returns-clause-licensed c = are_licensed

pub returns-clause-unlicensed : goal.returns-clause-unlicensed
returns-clause-unlicensed c = are_not_licensed
