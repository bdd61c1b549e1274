use Rattle.std.proofs.Common.{◌∙◌, ap, List, [], ◌∷◌, ◌++◌}
use Rattle.vault_model.specs.declared.Undo.{Undo}
use Rattle.vault_model.specs.declared.Undo.TheVariants.{Moves, OpensSlot}
use Rattle.vault_model.specs.rights_model.declared.Holder.TheVariants.{Hand, Slot}
use Rattle.vault_model.specs.rights_model.declared.Movement.{Movement}
use Rattle.vault_model.specs.rights_model.Table.{movement}
use Rattle.vault.proofs.Seated.{further_after, further_keeps}
use Rattle.vault.proofs.draft.Draft.put_further.Goals as goal

pub invariant_of-self-in-Ok-give_further : goal.invariant_of-self-in-Ok-give_further
invariant_of-self-in-Ok-give_further c = further_keeps c.self.inside.stores c.give_further.new.self c.self.inside.steps.items _ c.self.inside.movements.items _ c.self.inside.keys c.self.inside.is_spoiled c.args.seat c.args.keyword.now c.args.parcel c.in-Ok.movement
    (rw (← c.self.view_is) at c.requires.sound) c.self.invariant (rw (← c.self.view_is) at c.requires.hand) (rw (← c.self.view_is) at c.requires.target) c.in-Ok-give_further.ensures.ok c.in-Ok-give_further.ensures.value
    (c.push_reserved-in-Ok-give_further-2.ensures.items ∙ ap (λ (l : List Undo). l ++ Moves ∷ []) (c.push_reserved.ensures.items ∙ ap (λ (l : List Undo). l ++ OpensSlot c.args.seat ∷ []) c.in-Ok.ensures.steps))
    (c.push_reserved-in-Ok-give_further.ensures.items ∙ ap (λ (l : List Movement). l ++ c.in-Ok.movement ∷ []) c.in-Ok.ensures.movements)
    (c.in-Ok.ensures.movement ∙ (λ i. movement (c.brand.ensures i) Hand (Slot c.args.seat c.args.keyword.now) (c.value.ensures i)))

pub returns-in-Ok-give_further-clause-ok : goal.returns-in-Ok-give_further-clause-ok
returns-in-Ok-give_further-clause-ok c = rw (← c.self.view_is) (further_after c.self.inside.stores c.give_further.new.self c.self.inside.steps.items _ c.self.inside.movements.items _ c.self.inside.keys c.self.inside.is_spoiled c.args.seat c.args.keyword.now c.args.parcel c.in-Ok.movement
    (rw (← c.self.view_is) at c.requires.sound) c.self.invariant (rw (← c.self.view_is) at c.requires.hand) (rw (← c.self.view_is) at c.requires.target) c.in-Ok-give_further.ensures.ok c.in-Ok-give_further.ensures.value
    (c.push_reserved-in-Ok-give_further-2.ensures.items ∙ ap (λ (l : List Undo). l ++ Moves ∷ []) (c.push_reserved.ensures.items ∙ ap (λ (l : List Undo). l ++ OpensSlot c.args.seat ∷ []) c.in-Ok.ensures.steps))
    (c.push_reserved-in-Ok-give_further.ensures.items ∙ ap (λ (l : List Movement). l ++ c.in-Ok.movement ∷ []) c.in-Ok.ensures.movements)
    (c.in-Ok.ensures.movement ∙ (λ i. movement (c.brand.ensures i) Hand (Slot c.args.seat c.args.keyword.now) (c.value.ensures i))))
