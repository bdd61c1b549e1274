use Rattle.rule_laws.proofs.Methods.{services_are}
use Rattle.rule_laws.proofs.service_rules.calls_of_services_are_good_rules.Goals as goal

pub returns : goal.returns
returns c = record { good = services_are }
