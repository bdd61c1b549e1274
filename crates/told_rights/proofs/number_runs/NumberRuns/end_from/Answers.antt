use Rattle.std.proofs.Common.{arith, ◌+◌}
use Rattle.told_rights.proofs.number_runs.NumberRuns.end_from.Goals as goal

pub returns-then-number-eq4294967295 : goal.returns-then-number-eq4294967295
returns-then-number-eq4294967295 c = rw (← c.self.view_is) (record {
  within = omega arith;
  joined = λ lt. absurd (omega (arith, lt));
  alone = λ same last is. absurd (omega (arith, c.self.invariant.forward (c.args.number + 1) last is, c.self.invariant.small (c.args.number + 1) last is, c.if-number-eq4294967295.true));
})
