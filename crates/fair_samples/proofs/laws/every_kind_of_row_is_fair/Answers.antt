use Rattle.fair_samples.proofs.Fair.{example_is_fair, example_is_journal}
use Rattle.fair_samples.proofs.laws.every_kind_of_row_is_fair.Goals as goal

pub returns-clause-fair : goal.returns-clause-fair
returns-clause-fair c = example_is_fair

pub returns-clause-journal : goal.returns-clause-journal
returns-clause-journal c = example_is_journal
