use Rattle.transit.proofs.Calls.{made, return_part, unretire_keeps, unretire_view}
use Rattle.transit.proofs.Transit.undo_retire.Goals as goal

pub undo_retire-requires-clause-made : goal.undo_retire-requires-clause-made
undo_retire-requires-clause-made c = let there = rw (← c.self.view_is) at c.requires.made in made c.self.inside.out c.self.inside.hand.items c.self.invariant c.args.brand there

pub undo_retire-requires-clause-back : goal.undo_retire-requires-clause-back
undo_retire-requires-clause-back c =
    let there = rw (← c.self.view_is) at c.requires.made in
    return_part c.self.inside.out c.self.inside.hand.items c.self.invariant c.args.brand there c.args.value (rw (← c.self.view_is) at c.requires.back)

pub invariant_of-self : goal.invariant_of-self
invariant_of-self c =
    let there = rw (← c.self.view_is) at c.requires.made in
    unretire_keeps c.self.inside.out c.self.inside.hand.items c.self.invariant c.args.brand there c.args.value (rw (← c.self.view_is) at c.requires.back) c.kind-kind.ensures.circulates.kept _ c.undo_retire.ensures.unretired

pub returns-clause-unretired : goal.returns-clause-unretired
returns-clause-unretired c =
    let there = rw (← c.self.view_is) at c.requires.made in
    rw (← c.self.view_is) (unretire_view c.self.inside.out c.self.inside.hand.items c.self.invariant c.args.brand there c.args.value _ c.undo_retire.ensures.unretired)

pub kind-kind-requires : goal.kind-kind-requires
kind-kind-requires c = let there = rw (← c.self.view_is) at c.requires.made in made c.self.inside.out c.self.inside.hand.items c.self.invariant c.args.brand there
