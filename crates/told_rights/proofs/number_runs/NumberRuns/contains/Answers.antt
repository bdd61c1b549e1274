use Rattle.std.proofs.Common.{refl}
use Rattle.told_rights.proofs.Joined.{in_last, in_none}
use Rattle.told_rights.proofs.number_runs.NumberRuns.contains.Goals as goal

pub returns-in-Some : goal.returns-in-Some
returns-in-Some c = in_last c.args.self.now c.run_before.ensures.apart c.args.number (c.in-Some.field-0-0, c.in-Some.last) c.in-Some.ensures.some

pub returns-in-None : goal.returns-in-None
returns-in-None c = in_none c.args.self.now c.run_before.ensures.apart c.args.number (c.in-None.ensures.none refl)
