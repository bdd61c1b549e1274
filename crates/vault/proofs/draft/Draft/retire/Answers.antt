use Rattle.std.proofs.Common.{◌∙◌, ap, subst, List, [], ◌∷◌, ◌++◌}
use Rattle.vault_model.specs.declared.Undo.{Undo}
use Rattle.vault_model.specs.declared.Undo.TheVariants.{Moves}
use Rattle.vault_model.specs.rights_model.declared.Holder.TheVariants.{Hand, Outside}
use Rattle.vault_model.specs.rights_model.declared.Movement.{Movement}
use Rattle.vault_model.specs.rights_model.Table.{movement}
use Rattle.vault.specs.Drafts.{HandKeeps, IsDraft, draft_of}
use Rattle.vault.proofs.Made.{put_after_so, put_keeps_so}
use Rattle.vault.proofs.Steps.{can_hold}
use Rattle.vault.proofs.Taking.{can_retire}
use Rattle.vault.proofs.draft.Draft.retire.Goals as goal

pub retire-requires : goal.retire-requires
retire-requires c = (can_hold c.self.inside.stores c.self.inside.steps.items c.self.inside.movements.items c.self.inside.keys c.self.inside.is_spoiled c.args.parcel c.self.invariant (rw (← c.self.view_is) at c.requires.hand)).way

pub invariant_of-self-2 : goal.invariant_of-self-2
invariant_of-self-2 c =
    let sound = rw (← c.self.view_is) at c.requires.sound in
    let keep = rw (← c.self.view_is) at c.requires.hand in
    put_keeps_so c.self.inside.stores c.retire.new.self c.self.inside.steps.items _ c.self.inside.movements.items _ c.self.inside.keys c.self.inside.is_spoiled Outside c.args.parcel c.in-Ok.movement sound c.self.invariant keep c.retire.ensures
    (c.push_reserved-2.ensures.items ∙ ap (λ (l : List Undo). l ++ Moves ∷ []) c.in-Ok.ensures.steps)
    (c.push_reserved.ensures.items ∙ ap (λ (l : List Movement). l ++ c.in-Ok.movement ∷ []) c.in-Ok.ensures.movements)
    (c.in-Ok.ensures.movement ∙ (λ i. movement (c.brand.ensures i) Hand Outside (c.value.ensures i)))
    (can_retire c.self.inside.stores c.self.inside.steps.items c.self.inside.movements.items c.self.inside.keys c.args.parcel (subst (λ t. IsDraft c.self.inside.stores c.self.inside.steps.items c.self.inside.movements.items c.self.inside.keys t) sound c.self.invariant) (subst (λ t. HandKeeps (draft_of c.self.inside.stores c.self.inside.steps.items c.self.inside.movements.items t) c.args.parcel) sound keep))

pub returns-clause-ok : goal.returns-clause-ok
returns-clause-ok c =
    let sound = rw (← c.self.view_is) at c.requires.sound in
    let keep = rw (← c.self.view_is) at c.requires.hand in
    rw (← c.self.view_is) (put_after_so c.self.inside.stores c.retire.new.self c.self.inside.steps.items _ c.self.inside.movements.items _ c.self.inside.keys c.self.inside.is_spoiled Outside c.args.parcel c.in-Ok.movement sound c.self.invariant keep c.retire.ensures
    (c.push_reserved-2.ensures.items ∙ ap (λ (l : List Undo). l ++ Moves ∷ []) c.in-Ok.ensures.steps)
    (c.push_reserved.ensures.items ∙ ap (λ (l : List Movement). l ++ c.in-Ok.movement ∷ []) c.in-Ok.ensures.movements)
    (c.in-Ok.ensures.movement ∙ (λ i. movement (c.brand.ensures i) Hand Outside (c.value.ensures i)))
    (can_retire c.self.inside.stores c.self.inside.steps.items c.self.inside.movements.items c.self.inside.keys c.args.parcel (subst (λ t. IsDraft c.self.inside.stores c.self.inside.steps.items c.self.inside.movements.items c.self.inside.keys t) sound c.self.invariant) (subst (λ t. HandKeeps (draft_of c.self.inside.stores c.self.inside.steps.items c.self.inside.movements.items t) c.args.parcel) sound keep)))
