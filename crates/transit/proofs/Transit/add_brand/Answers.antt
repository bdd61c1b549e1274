use Rattle.std.proofs.Common.{◌∙◌, ◌++◌, ◌∷◌, []}
use Rattle.transit.proofs.Calls.{added_keeps, added_view, wholes_long}
use Rattle.transit.proofs.Transit.add_brand.Goals as goal

pub invariant_of-self-2 : goal.invariant_of-self-2
invariant_of-self-2 c = added_keeps c.self.inside.out c.self.inside.hand.items c.self.invariant c.args.kind _ _ c.in_ok-add_brand.ensures.ok (c.push_reserved.ensures.items ∙ (λ i. c.reserve.ensures.items i ++ c.empty.ensures i ∷ []))

pub returns-clause-ok : goal.returns-clause-ok
returns-clause-ok c = rw (← c.self.view_is) (added_view c.self.inside.out c.self.inside.hand.items c.self.invariant c.args.kind _ _ c.in_ok-add_brand.ensures.ok (c.push_reserved.ensures.items ∙ (λ i. c.reserve.ensures.items i ++ c.empty.ensures i ∷ [])))

pub returns-clause-same : goal.returns-clause-same
returns-clause-same c = rw (← c.self.view_is) (wholes_long c.self.inside.out c.self.inside.hand.items c.self.invariant)

pub returns-in_err-reserve-clause-same : goal.returns-in_err-reserve-clause-same
returns-in_err-reserve-clause-same c = rw (← c.self.view_is) (wholes_long c.self.inside.out c.self.inside.hand.items c.self.invariant)

pub returns-in_err-add_brand-clause-same : goal.returns-in_err-add_brand-clause-same
returns-in_err-add_brand-clause-same c = rw (← c.self.view_is) (wholes_long c.self.inside.out c.self.inside.hand.items c.self.invariant)
