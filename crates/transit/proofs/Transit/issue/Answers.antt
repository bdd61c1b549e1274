use Rattle.transit.proofs.Calls.{issue_keeps, issue_view, kind_there, made, may_so, refused_so}
use Rattle.transit.proofs.Transit.issue.Goals as goal

pub issue-requires-clause-made : goal.issue-requires-clause-made
issue-requires-clause-made c = let there = rw (← c.self.view_is) at c.requires.made in made c.self.inside.out c.self.inside.hand.items c.self.invariant c.args.brand there

pub issue-requires-clause-kind : goal.issue-requires-clause-kind
issue-requires-clause-kind c =
    let there = rw (← c.self.view_is) at c.requires.made in
    kind_there c.self.inside.out c.self.inside.hand.items c.self.invariant c.args.brand there c.args.value (rw (← c.self.view_is) at c.requires.kind)

pub invariant_of-self : goal.invariant_of-self
invariant_of-self c =
    let there = rw (← c.self.view_is) at c.requires.made in
    issue_keeps c.self.inside.out c.self.inside.hand.items c.self.invariant c.args.brand there c.args.value (rw (← c.self.view_is) at c.requires.empty) (rw (← c.self.view_is) at c.requires.kind) c.in-Ok.ensures.may.fits c.issue.new.self c.in-Ok.ensures.ok

pub returns-in-Ok-clause-ok : goal.returns-in-Ok-clause-ok
returns-in-Ok-clause-ok c =
    let there = rw (← c.self.view_is) at c.requires.made in
    rw (← c.self.view_is)
    (issue_view c.self.inside.out c.self.inside.hand.items c.self.invariant c.args.brand there c.args.value (rw (← c.self.view_is) at c.requires.empty) (rw (← c.self.view_is) at c.requires.kind) c.in-Ok.ensures.may.fits c.issue.new.self c.in-Ok.ensures.ok)

pub returns-in-Ok-clause-may : goal.returns-in-Ok-clause-may
returns-in-Ok-clause-may c =
    let there = rw (← c.self.view_is) at c.requires.made in
    rw (← c.self.view_is) (may_so c.self.inside.out c.self.inside.hand.items c.self.invariant c.args.brand there c.args.value (rw (← c.self.view_is) at c.requires.empty) c.in-Ok.ensures.may)

pub returns-in-Err-clause-refused : goal.returns-in-Err-clause-refused
returns-in-Err-clause-refused c =
    let there = rw (← c.self.view_is) at c.requires.made in
    rw (← c.self.view_is) (refused_so c.self.inside.out c.self.inside.hand.items c.self.invariant c.args.brand there c.args.value (rw (← c.self.view_is) at c.requires.empty) c.in-Err.fault.1 c.in-Err.ensures.refused)
