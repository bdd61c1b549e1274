use Rattle.delivery_laws.proofs.rule_laws.Methods.{calls_are, services_are}
use Rattle.fair_laws.proofs.Whole.{steps_are}
use Rattle.fair_laws.proofs.fair_deliveries.deliveries_are_steps.Goals as goal
use Rattle.fair_laws.proofs.HeldReads.{calls_read, services_read}

pub returns : goal.returns
returns c = record { step = λ read s modules host steady. steps_are read (services_are read modules) calls_are calls_read (services_read read) s host steady }
