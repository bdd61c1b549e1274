use Rattle.journal_rows.proofs.FirstBad.{a_cut_is_bad_there}
use Rattle.journal_rows.proofs.laws.a_cut_is_bad_there.Goals as goal

pub returns : goal.returns
returns c = a_cut_is_bad_there
