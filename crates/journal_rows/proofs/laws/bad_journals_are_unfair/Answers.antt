use Rattle.journal_rows.proofs.FirstBad.{bad_journals_are_unfair}
use Rattle.journal_rows.proofs.laws.bad_journals_are_unfair.Goals as goal

pub returns : goal.returns
returns c = bad_journals_are_unfair
