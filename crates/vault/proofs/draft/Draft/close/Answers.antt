use Rattle.std.proofs.Common.{◌∙◌, ap, List, [], ◌∷◌, ◌++◌}
use Rattle.vault_model.specs.declared.Undo.{Undo}
use Rattle.vault_model.specs.declared.Undo.TheVariants.{ClosesSeat}
use Rattle.vault.specs.Drafts.{draft_of}
use Rattle.vault.proofs.Seated.{close_after, close_keeps, may_close}
use Rattle.vault.proofs.draft.Draft.close.Goals as goal

pub close_seat-requires : goal.close_seat-requires
close_seat-requires c = may_close c.self.inside.stores c.self.inside.stores c.self.inside.steps.items c.self.inside.movements.items c.self.inside.keys c.self.inside.is_spoiled c.self.invariant c.args.seat (rw (← c.self.view_is) at c.requires.made) (rw (← c.self.view_is) at c.requires.is_open)

pub invariant_of-self-2 : goal.invariant_of-self-2
invariant_of-self-2 c = rw (c.push_reserved.ensures.items, c.reserve.ensures.items) (close_keeps c.self.inside.stores c.close_seat.new.self c.self.inside.steps.items c.self.inside.movements.items c.self.inside.keys c.self.inside.is_spoiled c.self.invariant c.args.seat (rw (← c.self.view_is) at c.requires.made) (rw (← c.self.view_is) at c.requires.is_open) c.in_ok-last.ensures.ok c.made-made.ensures.few)

pub returns-clause-ok : goal.returns-clause-ok
returns-clause-ok c = rw (← c.self.view_is) (ap (λ (l : List Undo). draft_of c.close_seat.new.self l c.self.inside.movements.items c.self.inside.is_spoiled) (c.push_reserved.ensures.items ∙ ap (λ (l : List Undo). l ++ ClosesSeat c.args.seat ∷ []) c.reserve.ensures.items) ∙ close_after c.self.inside.stores c.close_seat.new.self c.self.inside.steps.items c.self.inside.movements.items c.self.inside.keys c.self.inside.is_spoiled c.self.invariant c.args.seat (rw (← c.self.view_is) at c.requires.made) (rw (← c.self.view_is) at c.requires.is_open) c.in_ok-last.ensures.ok)
