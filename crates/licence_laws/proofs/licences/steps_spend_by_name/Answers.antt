use Rattle.licence_laws.proofs.Hosts.{steps_spend}
use Rattle.licence_laws.proofs.licences.steps_spend_by_name.Goals as goal

pub returns : goal.returns
returns c = record { step = steps_spend }
