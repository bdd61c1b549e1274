use Rattle.std.proofs.Common.{refl}
use Rattle.told_causes.proofs.Pairs.{listed}
use Rattle.told_causes.proofs.standings.Standings.list.Goals as goal

pub returns-in-Ok-clause-listed : goal.returns-in-Ok-clause-listed
returns-in-Ok-clause-listed c = listed c.args.self.now _ c.args.instance c.args.seat c.in-Ok.ensures.updates.0 refl
