use Rattle.std.proofs.Common.{sym, subst}
use Rattle.refusals.specs.amount_math.Entries.{IsRising}
use Rattle.value_tests.proofs.Differences.{entries_rise}
use Rattle.value_tests.proofs.value_differences.entries_of.Goals as goal

pub returns-clause-rising : goal.returns-clause-rising
returns-clause-rising c = subst IsRising (sym c.in-Some.ensures.entries) (entries_rise c.args.value.now.content)
