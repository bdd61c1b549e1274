use Rattle.rule_laws.proofs.Reading.{reads}
use Rattle.rule_laws.proofs.call_rules.rules_that_read_owe_their_answer.Goals as goal

pub returns : goal.returns
returns c = record { reads = reads }
