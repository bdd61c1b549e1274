use Rattle.journal_rows.proofs.Parsed.{good_rows_are_fair}
use Rattle.journal_rows.proofs.laws.good_rows_are_fair.Goals as goal

pub returns : goal.returns
returns c = good_rows_are_fair
