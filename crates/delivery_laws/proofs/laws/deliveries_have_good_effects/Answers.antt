use Rattle.rule_laws.proofs.Methods.{calls_are, services_are}
use Rattle.delivery_laws.proofs.Works.{turn_good}
use Rattle.delivery_laws.proofs.laws.deliveries_have_good_effects.Goals as goal

pub returns : goal.returns
returns c = record { good = λ read meter w d reads good. turn_good read (services_are read reads) calls_are meter w d good }
