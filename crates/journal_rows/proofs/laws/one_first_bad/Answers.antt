use Rattle.journal_rows.proofs.FirstBad.{one_first_bad}
use Rattle.journal_rows.proofs.laws.one_first_bad.Goals as goal

pub returns : goal.returns
returns c = one_first_bad
