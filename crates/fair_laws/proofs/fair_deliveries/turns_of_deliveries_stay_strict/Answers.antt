use Rattle.delivery_laws.proofs.rule_laws.Methods.{calls_are, services_are}
use Rattle.fair_laws.proofs.Fair.{stay_strict}
use Rattle.fair_laws.proofs.Whole.{steps_are}
use Rattle.fair_laws.proofs.fair_deliveries.turns_of_deliveries_stay_strict.Goals as goal
use Rattle.fair_laws.proofs.HeldReads.{calls_read, services_read}

pub returns : goal.returns
returns c = record { step = λ read s ts modules host steady strict leaves. stay_strict read s ts strict leaves (steps_are read (services_are read modules) calls_are calls_read (services_read read) s host steady) }
