use Rattle.std.proofs.Common.{arith, refl}
use Rattle.told_rights.proofs.Joined.{starts_alone, starts_behind, starts_there}
use Rattle.told_rights.proofs.number_runs.NumberRuns.start_to.Goals as goal

pub returns-in-None : goal.returns-in-None
returns-in-None c = starts_alone c.args.self.now c.args.number c.run_before.ensures.apart (c.in-None.ensures.none refl)

pub returns-then-from : goal.returns-then-from
returns-then-from c =
    starts_there c.args.self.now c.args.number (c.in-Some.first, c.in-Some.last) c.run_before.ensures.apart c.in-Some.ensures.some (omega (arith, c.from.ensures, c.from-in-Some.ensures, c.if-from.true))

pub returns-else-from : goal.returns-else-from
returns-else-from c =
    starts_behind c.args.self.now c.args.number (c.in-Some.first, c.in-Some.last) c.run_before.ensures.apart c.in-Some.ensures.some (λ e. absurd (omega (arith, e, c.from.ensures, c.from-in-Some.ensures, c.if-from.false)))
