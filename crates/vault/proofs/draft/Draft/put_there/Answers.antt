use Rattle.std.proofs.Common.{◌≡◌, ◌∙◌, ap, List, [], ◌∷◌, ◌++◌}
use Rattle.vault_model.specs.declared.Undo.{Undo}
use Rattle.vault_model.specs.declared.Undo.TheVariants.{Moves}
use Rattle.vault_model.specs.rights_model.declared.Holder.TheVariants.{Hand}
use Rattle.vault_model.specs.rights_model.declared.Movement.{Movement}
use Rattle.vault_model.specs.rights_model.Table.{movement}
use Rattle.vault.specs.Memory.{lists_of}
use Rattle.vault.specs.Drafts.{draft_of}
use Rattle.vault.proofs.Made.{put_after_so, put_keeps_so}
use Rattle.vault.proofs.Steps.{room_stays, same_draft}
use Rattle.vault.proofs.Taking.{can_give}
use Rattle.vault.proofs.draft.Draft.put_there.Goals as goal
use Rattle.vault.proofs.draft.Draft.put_there.Goals.{in-Set-1, in-Bag-1, in-Nat-1}

pub invariant_of-self-in-Ok-give_to : goal.invariant_of-self-in-Ok-give_to
invariant_of-self-in-Ok-give_to c =
    let sound = rw (← c.self.view_is) at c.requires.sound in
    let target = rw (← c.self.view_is) at c.requires.target in
    let keep = rw (← c.self.view_is) at c.requires.hand in
    let can = can_give (lists_of c.self.inside.stores) c.args.to.now c.args.parcel target c.in-Ok-give_to.ensures.value in
    put_keeps_so c.self.inside.stores c.give_to.new.self c.self.inside.steps.items _ c.self.inside.movements.items _ c.self.inside.keys c.self.inside.is_spoiled c.args.to.now c.args.parcel c.in-Ok.movement sound c.self.invariant keep c.in-Ok-give_to.ensures.ok
    (c.push_reserved-in-Ok-give_to.ensures.items ∙ ap (λ (l : List Undo). l ++ Moves ∷ []) c.in-Ok.ensures.steps)
    (c.push_reserved.ensures.items ∙ ap (λ (l : List Movement). l ++ c.in-Ok.movement ∷ []) c.in-Ok.ensures.movements)
    (c.in-Ok.ensures.movement ∙ (λ i. movement (c.brand.ensures i) Hand c.args.to.now (c.value.ensures i)))
    can

pub invariant_of-self-in-Err : goal.invariant_of-self-in-Err
invariant_of-self-in-Err c = rw (c.in-Ok.ensures.steps, c.in-Ok.ensures.movements) (room_stays c.self.inside.stores c.give_to.new.self c.self.inside.steps.items c.self.inside.movements.items c.self.inside.keys c.self.inside.is_spoiled c.self.invariant c.in-Err.ensures.err)

pub invariant_of-self-in-Err-2 : goal.invariant_of-self-in-Err-2
invariant_of-self-in-Err-2 c = rw (c.in-Ok.ensures.steps, c.in-Ok.ensures.movements) (room_stays c.self.inside.stores c.give_to.new.self c.self.inside.steps.items c.self.inside.movements.items c.self.inside.keys c.self.inside.is_spoiled c.self.invariant c.in-Err.ensures.err)

pub invariant_of-self-in-Err-3 : goal.invariant_of-self-in-Err-3
invariant_of-self-in-Err-3 c = rw (c.in-Ok.ensures.steps, c.in-Ok.ensures.movements) (room_stays c.self.inside.stores c.give_to.new.self c.self.inside.steps.items c.self.inside.movements.items c.self.inside.keys c.self.inside.is_spoiled c.self.invariant c.in-Err.ensures.err)

pub returns-in-Ok-give_to-clause-ok : goal.returns-in-Ok-give_to-clause-ok
returns-in-Ok-give_to-clause-ok c =
    let sound = rw (← c.self.view_is) at c.requires.sound in
    let target = rw (← c.self.view_is) at c.requires.target in
    let keep = rw (← c.self.view_is) at c.requires.hand in
    let can = can_give (lists_of c.self.inside.stores) c.args.to.now c.args.parcel target c.in-Ok-give_to.ensures.value in
    rw (← c.self.view_is) (put_after_so c.self.inside.stores c.give_to.new.self c.self.inside.steps.items _ c.self.inside.movements.items _ c.self.inside.keys c.self.inside.is_spoiled c.args.to.now c.args.parcel c.in-Ok.movement sound c.self.invariant keep c.in-Ok-give_to.ensures.ok
    (c.push_reserved-in-Ok-give_to.ensures.items ∙ ap (λ (l : List Undo). l ++ Moves ∷ []) c.in-Ok.ensures.steps)
    (c.push_reserved.ensures.items ∙ ap (λ (l : List Movement). l ++ c.in-Ok.movement ∷ []) c.in-Ok.ensures.movements)
    (c.in-Ok.ensures.movement ∙ (λ i. movement (c.brand.ensures i) Hand c.args.to.now (c.value.ensures i)))
    can)

pub returns-in-Err-clause-err : goal.returns-in-Err-clause-err
returns-in-Err-clause-err c =
    let same : draft_of c.give_to.new.self c.note_put.new.steps.items c.note_put.new.movements.items c.self.inside.is_spoiled ≡ draft_of c.self.inside.stores c.self.inside.steps.items c.self.inside.movements.items c.self.inside.is_spoiled = (λ i. draft_of c.give_to.new.self (c.in-Ok.ensures.steps i) (c.in-Ok.ensures.movements i) c.self.inside.is_spoiled) ∙ same_draft c.self.inside.stores c.give_to.new.self c.self.inside.steps.items c.self.inside.movements.items c.self.inside.is_spoiled c.in-Err.ensures.err in
    rw (← c.self.view_is) (elim c.match-movement.branch [
      | in-Set-1 w ↦ w.self-is ∙ same
      | in-Bag-1 w ↦ w.self-is ∙ same
      | in-Nat-1 w ↦ w.self-is ∙ same
    ])
