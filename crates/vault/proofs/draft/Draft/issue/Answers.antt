use Rattle.std.proofs.Common.{◌≡◌, ◌∙◌, ap, refl, List, [], ◌∷◌, ◌++◌}
use Rattle.vault_model.specs.declared.Undo.{Undo}
use Rattle.vault_model.specs.declared.Undo.TheVariants.{Moves}
use Rattle.vault_model.specs.rights_model.declared.Holder.TheVariants.{Outside}
use Rattle.vault_model.specs.rights_model.declared.Movement.{Movement}
use Rattle.vault.specs.Drafts.{draft_of}
use Rattle.vault.proofs.Made.{may_come, none_in_store, taken_after_so, taken_keeps_so}
use Rattle.vault.proofs.Steps.{room_stays, same_draft}
use Rattle.vault.proofs.draft.Draft.issue.Goals as goal
use Rattle.vault.proofs.draft.Draft.issue.Goals.{in-Set-1, in-Bag-1, in-Nat-1}

pub invariant_of-self : goal.invariant_of-self
invariant_of-self c = rw (c.in_default.ensures.steps, c.in_default.ensures.movements) (room_stays c.self.inside.stores c.note_take.new.stores c.self.inside.steps.items c.self.inside.movements.items c.self.inside.keys c.self.inside.is_spoiled c.self.invariant c.in_default.ensures.roomed)

pub issue-requires-clause-empty : goal.issue-requires-clause-empty
issue-requires-clause-empty c =
    let empty = rw (← c.self.view_is) at c.requires.empty in
    let brand = rw (← c.self.view_is) at c.requires.brand in
    none_in_store c.self.inside.stores c.note_take.new.stores c.self.inside.steps.items c.self.inside.movements.items c.self.inside.keys c.self.inside.is_spoiled c.args.brand c.args.value c.in-Ok.ensures.roomed brand empty

pub invariant_of-self-in-Ok-issue : goal.invariant_of-self-in-Ok-issue
invariant_of-self-in-Ok-issue c =
    let sound = rw (← c.self.view_is) at c.requires.sound in
    let brand = rw (← c.self.view_is) at c.requires.brand in
    taken_keeps_so c.self.inside.stores c.note_take.new.stores c.issue.new.self c.self.inside.steps.items _ c.self.inside.movements.items _ c.self.inside.keys c.in-Ok.noted.keys c.self.inside.is_spoiled Outside c.args.brand c.args.brand c.args.value c.in-Ok.noted.movement sound c.self.invariant c.in-Ok.ensures.roomed c.in-Ok-issue.ensures.ok
    (may_come c.self.inside.stores c.note_take.new.stores c.self.inside.steps.items c.self.inside.movements.items c.self.inside.keys c.self.inside.is_spoiled c.args.brand c.args.value c.in-Ok.ensures.roomed brand c.in-Ok-issue.ensures.may) refl
    (c.push_reserved-in-Ok-issue.ensures.items ∙ ap (λ (l : List Undo). l ++ Moves ∷ []) c.in-Ok.ensures.steps)
    (c.push_reserved.ensures.items ∙ ap (λ (l : List Movement). l ++ c.in-Ok.noted.movement ∷ []) c.in-Ok.ensures.movements)
    c.in-Ok.ensures.movement brand c.in-Ok.ensures.keys c.in-Ok.ensures.hand_room

pub invariant_of-self-in-Err : goal.invariant_of-self-in-Err
invariant_of-self-in-Err c = rw (c.in-Err.ensures.err, c.in-Ok.ensures.steps, c.in-Ok.ensures.movements) (room_stays c.self.inside.stores c.note_take.new.stores c.self.inside.steps.items c.self.inside.movements.items c.self.inside.keys c.self.inside.is_spoiled c.self.invariant c.in-Ok.ensures.roomed)

pub invariant_of-self-in-Err-2 : goal.invariant_of-self-in-Err-2
invariant_of-self-in-Err-2 c = rw (c.in-Err.ensures.err, c.in-Ok.ensures.steps, c.in-Ok.ensures.movements) (room_stays c.self.inside.stores c.note_take.new.stores c.self.inside.steps.items c.self.inside.movements.items c.self.inside.keys c.self.inside.is_spoiled c.self.invariant c.in-Ok.ensures.roomed)

pub invariant_of-self-in-Err-3 : goal.invariant_of-self-in-Err-3
invariant_of-self-in-Err-3 c = rw (c.in-Err.ensures.err, c.in-Ok.ensures.steps, c.in-Ok.ensures.movements) (room_stays c.self.inside.stores c.note_take.new.stores c.self.inside.steps.items c.self.inside.movements.items c.self.inside.keys c.self.inside.is_spoiled c.self.invariant c.in-Ok.ensures.roomed)

pub returns-in-Ok-issue-clause-ok : goal.returns-in-Ok-issue-clause-ok
returns-in-Ok-issue-clause-ok c =
    let sound = rw (← c.self.view_is) at c.requires.sound in
    let brand = rw (← c.self.view_is) at c.requires.brand in
    rw (← c.self.view_is) (taken_after_so c.self.inside.stores c.note_take.new.stores c.issue.new.self c.self.inside.steps.items _ c.self.inside.movements.items _ c.self.inside.keys c.in-Ok.noted.keys c.self.inside.is_spoiled Outside c.args.brand c.args.brand c.args.value c.in-Ok.noted.movement sound c.self.invariant c.in-Ok.ensures.roomed c.in-Ok-issue.ensures.ok
    (may_come c.self.inside.stores c.note_take.new.stores c.self.inside.steps.items c.self.inside.movements.items c.self.inside.keys c.self.inside.is_spoiled c.args.brand c.args.value c.in-Ok.ensures.roomed brand c.in-Ok-issue.ensures.may) refl
    (c.push_reserved-in-Ok-issue.ensures.items ∙ ap (λ (l : List Undo). l ++ Moves ∷ []) c.in-Ok.ensures.steps)
    (c.push_reserved.ensures.items ∙ ap (λ (l : List Movement). l ++ c.in-Ok.noted.movement ∷ []) c.in-Ok.ensures.movements)
    c.in-Ok.ensures.movement)

pub returns-in_default-clause-err : goal.returns-in_default-clause-err
returns-in_default-clause-err c = rw (← c.self.view_is) ((λ i. draft_of c.note_take.new.stores (c.in_default.ensures.steps i) (c.in_default.ensures.movements i) c.self.inside.is_spoiled) ∙ same_draft c.self.inside.stores c.note_take.new.stores c.self.inside.steps.items c.self.inside.movements.items c.self.inside.is_spoiled c.in_default.ensures.roomed)

pub returns-in-Err-clause-err : goal.returns-in-Err-clause-err
returns-in-Err-clause-err c =
    let same : draft_of c.issue.new.self c.note_take.new.steps.items c.note_take.new.movements.items c.self.inside.is_spoiled ≡ draft_of c.self.inside.stores c.self.inside.steps.items c.self.inside.movements.items c.self.inside.is_spoiled = (λ i. draft_of (c.in-Err.ensures.err i) (c.in-Ok.ensures.steps i) (c.in-Ok.ensures.movements i) c.self.inside.is_spoiled) ∙ same_draft c.self.inside.stores c.note_take.new.stores c.self.inside.steps.items c.self.inside.movements.items c.self.inside.is_spoiled c.in-Ok.ensures.roomed in
    rw (← c.self.view_is) (elim c.match-noted.branch [
      | in-Set-1 w ↦ w.self-is ∙ same
      | in-Bag-1 w ↦ w.self-is ∙ same
      | in-Nat-1 w ↦ w.self-is ∙ same
    ])
