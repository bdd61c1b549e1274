use Rattle.licence_laws.proofs.Licensed.{steps_licensed}
use Rattle.licence_laws.proofs.licences.steps_are_licensed.Goals as goal

pub returns : goal.returns
returns c = record { step = steps_licensed }
