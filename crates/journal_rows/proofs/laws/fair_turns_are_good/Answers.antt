use Rattle.journal_rows.proofs.Good.{fair_turns_are_good}
use Rattle.journal_rows.proofs.laws.fair_turns_are_good.Goals as goal

pub returns : goal.returns
returns c = fair_turns_are_good
