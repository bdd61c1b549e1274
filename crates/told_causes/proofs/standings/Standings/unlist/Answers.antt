use Rattle.std.proofs.Common.{refl}
use Rattle.told_causes.proofs.Pairs.{unlisted}
use Rattle.told_causes.proofs.standings.Standings.unlist.Goals as goal

pub returns-clause-off : goal.returns-clause-off
returns-clause-off c = unlisted c.args.self.now _ c.args.instance c.args.seat c.remove.ensures.updates.0 refl refl
