use Rattle.std.proofs.Common.{arith, sym, ◌∙◌}
use Rattle.told_rights.proofs.Joined.{apart_one, apart_two, more_one, more_two}
use Rattle.told_rights.proofs.number_runs.NumberRuns.insert.Goals as goal

pub invariant_of-self-then-number-end : goal.invariant_of-self-then-number-end
invariant_of-self-then-number-end c =
    apart_two c.args.self.now c.self.inside.runs c.insert.new.self c.args.number c.start_to-start.result c.end_from-end.result c.self.view_is c.self.invariant (sym c.contains.ensures ∙ c.if-contains.false) c.ranges.number.fits c.start_to-start.ensures c.end_from-end.ensures
    c.in-Ok.ensures.updates c.remove.new.self c.remove.ensures.updates c.remove.ensures.ordered

pub invariant_of-self-else-number-end : goal.invariant_of-self-else-number-end
invariant_of-self-else-number-end c =
    apart_one c.args.self.now c.self.inside.runs c.insert.new.self c.args.number c.start_to-start.result c.end_from-end.result c.self.view_is c.self.invariant (sym c.contains.ensures ∙ c.if-contains.false) c.ranges.number.fits c.start_to-start.ensures c.end_from-end.ensures
    c.in-Ok.ensures.updates (omega (arith, c.if-number-end.false, c.end_from-end.ensures.within)) c.insert.ensures.ordered

pub returns-then-number-end-clause-ok : goal.returns-then-number-end-clause-ok
returns-then-number-end-clause-ok c =
    more_two c.args.self.now c.self.inside.runs c.insert.new.self c.args.number c.start_to-start.result c.end_from-end.result c.self.view_is c.self.invariant (sym c.contains.ensures ∙ c.if-contains.false) c.ranges.number.fits c.start_to-start.ensures c.end_from-end.ensures
    c.in-Ok.ensures.updates c.remove.new.self c.remove.ensures.updates c.remove.ensures.ordered

pub returns-else-number-end-clause-ok : goal.returns-else-number-end-clause-ok
returns-else-number-end-clause-ok c =
    more_one c.args.self.now c.self.inside.runs c.insert.new.self c.args.number c.start_to-start.result c.end_from-end.result c.self.view_is c.self.invariant (sym c.contains.ensures ∙ c.if-contains.false) c.ranges.number.fits c.start_to-start.ensures c.end_from-end.ensures
    c.in-Ok.ensures.updates (omega (arith, c.if-number-end.false, c.end_from-end.ensures.within)) c.insert.ensures.ordered
