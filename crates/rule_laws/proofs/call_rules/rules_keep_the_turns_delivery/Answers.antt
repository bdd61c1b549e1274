use Rattle.rule_laws.proofs.Reading.{kept_front}
use Rattle.rule_laws.proofs.call_rules.rules_keep_the_turns_delivery.Goals as goal

pub returns : goal.returns
returns c = record { kept = kept_front }
