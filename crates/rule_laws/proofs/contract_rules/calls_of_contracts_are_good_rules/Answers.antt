use Rattle.rule_laws.proofs.Methods.{calls_are}
use Rattle.rule_laws.proofs.contract_rules.calls_of_contracts_are_good_rules.Goals as goal

pub returns : goal.returns
returns c = record { good = calls_are }
