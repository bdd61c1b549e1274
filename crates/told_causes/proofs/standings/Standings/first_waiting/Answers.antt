use Rattle.told_causes.proofs.Pairs.{none_at_all, none_past}
use Rattle.told_causes.proofs.standings.Standings.first_waiting.Goals as goal

pub returns-in-None-clause-none : goal.returns-in-None-clause-none
returns-in-None-clause-none c = none_at_all c.args.self.now c.args.instance c.range.result (c.range.ensures.in_range tt) c.in-None.ensures.steps.0

pub returns-else-found-instance-clause-none : goal.returns-else-found-instance-clause-none
returns-else-found-instance-clause-none c = none_past c.args.self.now c.args.instance c.range.result c.in-Some.first.now c.next.new.self (c.range.ensures.in_range tt) c.in-Some.ensures.steps c.if-found-instance.false
