use Rattle.std.proofs.lemmas.Result.{IfErr-weaker}
use Rattle.transit.proofs.Calls.{kind_there, made, may_so, may_there, refused_so}
use Rattle.transit.proofs.Transit.can_issue.Goals as goal

pub can_issue-requires-clause-made : goal.can_issue-requires-clause-made
can_issue-requires-clause-made c = let there = rw (← c.self.view_is) at c.requires.made in made c.self.inside.out c.self.inside.hand.items c.self.invariant c.args.brand there

pub can_issue-requires-clause-kind : goal.can_issue-requires-clause-kind
can_issue-requires-clause-kind c =
    let there = rw (← c.self.view_is) at c.requires.made in
    kind_there c.self.inside.out c.self.inside.hand.items c.self.invariant c.args.brand there c.args.value.now (rw (← c.self.view_is) at c.requires.kind)

pub returns-clause-ok : goal.returns-clause-ok
returns-clause-ok c =
    let there = rw (← c.self.view_is) at c.requires.made in
    rw (← c.self.view_is) (λ ok. may_so c.self.inside.out c.self.inside.hand.items c.self.invariant c.args.brand there c.args.value.now (rw (← c.self.view_is) at c.requires.empty) (c.can_issue.ensures.ok ok))

pub returns-clause-sure : goal.returns-clause-sure
returns-clause-sure c =
    let there = rw (← c.self.view_is) at c.requires.made in
    rw (← c.self.view_is) (λ may. c.can_issue.ensures.sure (may_there c.self.inside.out c.self.inside.hand.items c.self.invariant c.args.brand there c.args.value.now (rw (← c.self.view_is) at c.requires.empty) may))

pub returns-clause-refused : goal.returns-clause-refused
returns-clause-refused c =
    let there = rw (← c.self.view_is) at c.requires.made in
    rw (← c.self.view_is) (IfErr-weaker _ _ _ (refused_so c.self.inside.out c.self.inside.hand.items c.self.invariant c.args.brand there c.args.value.now (rw (← c.self.view_is) at c.requires.empty)) c.can_issue.ensures.refused)
