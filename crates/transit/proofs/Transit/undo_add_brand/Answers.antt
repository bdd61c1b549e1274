use Rattle.std.proofs.Common.{arith, ◌∙◌, ◌-◌, ℕ, ap, length, take}
use Rattle.transit.proofs.Calls.{fresh_there, last_hand, removed_keeps, removed_out, sym_long, wholes_long}
use Rattle.transit.proofs.Transit.undo_add_brand.Goals as goal

pub undo_add_brand-requires-clause-fresh : goal.undo_add_brand-requires-clause-fresh
undo_add_brand-requires-clause-fresh c =
    fresh_there c.self.inside.out c.self.inside.hand.items c.self.invariant (rw (← c.self.view_is) at c.requires.made) (rw (← c.self.view_is) at c.requires.fresh)

pub invariant_of-self : goal.invariant_of-self
invariant_of-self c =
    removed_keeps c.self.inside.out c.self.inside.hand.items c.self.invariant (length c.self.inside.out - 1) _ _ c.undo_add_brand.ensures (c.truncate.ensures.items ∙ last_hand c.self.inside.out c.self.inside.hand.items c.self.invariant c.len.result _ c.len.ensures (omega arith))

pub returns-clause-same : goal.returns-clause-same
returns-clause-same c =
    wholes_long _ _ (removed_keeps c.self.inside.out c.self.inside.hand.items c.self.invariant (length c.self.inside.out - 1) _ _ c.undo_add_brand.ensures (c.truncate.ensures.items ∙ last_hand c.self.inside.out c.self.inside.hand.items c.self.invariant c.len.result _ c.len.ensures (omega arith)))

pub returns-clause-out : goal.returns-clause-out
returns-clause-out c =
    rw (← c.self.view_is, ← sym_long c.self.inside.out c.self.inside.hand.items c.self.invariant)
    (removed_out c.self.inside.out c.self.inside.hand.items c.self.invariant (length c.self.inside.out - 1) _ _ c.undo_add_brand.ensures (c.truncate.ensures.items ∙ last_hand c.self.inside.out c.self.inside.hand.items c.self.invariant c.len.result _ c.len.ensures (omega arith)))

pub returns-clause-hand : goal.returns-clause-hand
returns-clause-hand c =
    rw (← c.self.view_is)
    (c.truncate.ensures.items ∙ last_hand c.self.inside.out c.self.inside.hand.items c.self.invariant c.len.result _ c.len.ensures (omega arith) ∙ ap (λ (n : ℕ). take (n - 1) c.self.inside.hand.items) (sym_long c.self.inside.out c.self.inside.hand.items c.self.invariant))
