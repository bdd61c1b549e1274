use Rattle.fair_rows.proofs.Values.{whole}
use Rattle.fair_rows.proofs.laws.values_are_told.Goals as goal

pub returns : goal.returns
returns c = whole
