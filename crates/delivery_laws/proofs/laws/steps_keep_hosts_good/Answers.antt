use Rattle.rule_laws.proofs.Methods.{calls_are, services_are}
use Rattle.delivery_laws.proofs.Hosts.{steps_good}
use Rattle.delivery_laws.proofs.laws.steps_keep_hosts_good.Goals as goal

pub returns : goal.returns
returns c = record { step = λ read s reads host. steps_good read (services_are read reads) calls_are s host }
