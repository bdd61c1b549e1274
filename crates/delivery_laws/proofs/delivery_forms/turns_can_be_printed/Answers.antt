use Rattle.rule_laws.proofs.Methods.{calls_are, services_are}
use Rattle.delivery_laws.proofs.Steps.{steps_print}
use Rattle.delivery_laws.proofs.delivery_forms.turns_can_be_printed.Goals as goal

pub returns : goal.returns
returns c = record { prints = λ read s reads host. steps_print read (services_are read reads) calls_are s host }
