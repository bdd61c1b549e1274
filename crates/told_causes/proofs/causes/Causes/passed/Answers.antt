use Rattle.std.proofs.Common.{refl}
use Rattle.told_causes.proofs.CauseRows.{other_kept, plain_row}
use Rattle.told_causes.proofs.Opened.{passed_told}
use Rattle.told_causes.proofs.causes.Causes.passed.Goals as goal

pub returns : goal.returns
returns c = λ i e deed told. other_kept c.args.self.now _ i e (plain_row e deed) told (passed_told c.args.self.now.standings i e deed told.standings) refl refl refl refl refl
