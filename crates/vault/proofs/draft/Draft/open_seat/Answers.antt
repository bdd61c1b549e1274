use Rattle.std.proofs.Common.{◌∙◌, ap, List, [], ◌∷◌, ◌++◌}
use Rattle.vault_model.specs.declared.Undo.{Undo}
use Rattle.vault_model.specs.declared.Undo.TheVariants.{OpensSeat}
use Rattle.vault.specs.Drafts.{draft_of}
use Rattle.vault.proofs.Seated.{seat_after, seat_keeps}
use Rattle.vault.proofs.draft.Draft.open_seat.Goals as goal

pub invariant_of-self-in-Ok : goal.invariant_of-self-in-Ok
invariant_of-self-in-Ok c = rw (c.push_reserved.ensures.items, c.reserve.ensures.items) (seat_keeps c.self.inside.stores c.open_seat.new.self c.self.inside.steps.items c.self.inside.movements.items c.self.inside.keys c.self.inside.is_spoiled c.self.invariant c.args.instance c.args.proposal c.in-Ok.ensures.ok)

pub returns-in-Ok-clause-ok : goal.returns-in-Ok-clause-ok
returns-in-Ok-clause-ok c = rw (← c.self.view_is) (ap (λ (l : List Undo). draft_of c.open_seat.new.self l c.self.inside.movements.items c.self.inside.is_spoiled) (c.push_reserved.ensures.items ∙ ap (λ (l : List Undo). l ++ OpensSeat ∷ []) c.reserve.ensures.items) ∙ seat_after c.self.inside.stores c.open_seat.new.self c.self.inside.steps.items c.self.inside.movements.items c.self.inside.keys c.self.inside.is_spoiled c.self.invariant c.args.instance c.args.proposal c.in-Ok.ensures.ok)
