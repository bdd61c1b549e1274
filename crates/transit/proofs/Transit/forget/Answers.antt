use Rattle.transit.proofs.Calls.{forget_keeps, forget_part, forget_view, made}
use Rattle.transit.proofs.Transit.forget.Goals as goal

pub forget-requires-clause-made : goal.forget-requires-clause-made
forget-requires-clause-made c = let there = rw (← c.self.view_is) at c.requires.made in made c.self.inside.out c.self.inside.hand.items c.self.invariant c.args.brand there

pub forget-requires-clause-kept : goal.forget-requires-clause-kept
forget-requires-clause-kept c =
    let there = rw (← c.self.view_is) at c.requires.made in
    forget_part c.self.inside.out c.self.inside.hand.items c.self.invariant c.args.brand there c.args.value.now (rw (← c.self.view_is) at c.requires.kept)

pub invariant_of-self : goal.invariant_of-self
invariant_of-self c =
    let there = rw (← c.self.view_is) at c.requires.made in
    forget_keeps c.self.inside.out c.self.inside.hand.items c.self.invariant c.args.brand there c.args.value.now (rw (← c.self.view_is) at c.requires.kept) _ c.forget.ensures

pub returns : goal.returns
returns c =
    let there = rw (← c.self.view_is) at c.requires.made in
    rw (← c.self.view_is) (forget_view c.self.inside.out c.self.inside.hand.items c.self.invariant c.args.brand there c.args.value.now _ c.forget.ensures)
