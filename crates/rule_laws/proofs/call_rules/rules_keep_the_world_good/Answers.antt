use Rattle.rule_laws.proofs.Reading.{kept_rule}
use Rattle.rule_laws.proofs.call_rules.rules_keep_the_world_good.Goals as goal

pub returns : goal.returns
returns c = record { kept = kept_rule }
