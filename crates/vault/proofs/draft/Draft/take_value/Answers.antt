use Rattle.std.proofs.Common.{◌∙◌, ap, subst, List, [], ◌∷◌, ◌++◌}
use Rattle.vault_model.specs.declared.Undo.{Undo}
use Rattle.vault_model.specs.declared.Undo.TheVariants.{Moves}
use Rattle.vault_model.specs.rights_model.declared.Movement.{Movement}
use Rattle.vault.specs.Memory.{IsTaken, lists_of}
use Rattle.vault_model.specs.Lists.{Lists}
use Rattle.vault.specs.Asked.{brand_of}
use Rattle.vault.specs.Drafts.{draft_of}
use Rattle.vault.proofs.Made.{taken_after_so, taken_keeps_so}
use Rattle.vault.proofs.Steps.{room_stays, same_draft}
use Rattle.vault.proofs.Taking.{can_take}
use Rattle.vault.proofs.draft.Draft.take_value.Goals as goal

pub brand-brand-requires : goal.brand-brand-requires
brand-brand-requires c = (c.args.value, rw (← c.self.view_is) at c.requires.source)

pub invariant_of-self : goal.invariant_of-self
invariant_of-self c = rw (c.in_default.ensures.steps, c.in_default.ensures.movements) (room_stays c.self.inside.stores c.note_take.new.stores c.self.inside.steps.items c.self.inside.movements.items c.self.inside.keys c.self.inside.is_spoiled c.self.invariant c.in_default.ensures.roomed)

pub invariant_of-self-2 : goal.invariant_of-self-2
invariant_of-self-2 c =
    let sound = rw (← c.self.view_is) at c.requires.sound in
    let source = rw (← c.self.view_is) at c.requires.source in
    let has = rw (← c.self.view_is) at c.requires.has in
    let brand = rw (← c.self.view_is) at c.requires.brand in
    taken_keeps_so c.self.inside.stores c.note_take.new.stores c.take_from-parcel.new.self c.self.inside.steps.items _ c.self.inside.movements.items _ c.self.inside.keys c.in-Ok.noted.keys c.self.inside.is_spoiled c.args.from.now (brand_of (lists_of c.self.inside.stores) c.args.from.now) c.brand-brand.result c.args.value c.in-Ok.noted.movement sound c.self.invariant c.in-Ok.ensures.roomed
    (subst (λ (s : Lists). IsTaken c.note_take.new.stores c.take_from-parcel.new.self c.args.from.now (brand_of s c.args.from.now) c.args.value) c.in-Ok.ensures.roomed.lists c.take_from-parcel.ensures.taken)
    (can_take (lists_of c.self.inside.stores) c.args.from.now c.args.value source has) c.brand-brand.ensures
    (c.push_reserved-2.ensures.items ∙ ap (λ (l : List Undo). l ++ Moves ∷ []) c.in-Ok.ensures.steps)
    (c.push_reserved.ensures.items ∙ ap (λ (l : List Movement). l ++ c.in-Ok.noted.movement ∷ []) c.in-Ok.ensures.movements)
    c.in-Ok.ensures.movement brand c.in-Ok.ensures.keys c.in-Ok.ensures.hand_room

pub returns-clause-ok : goal.returns-clause-ok
returns-clause-ok c =
    let sound = rw (← c.self.view_is) at c.requires.sound in
    let source = rw (← c.self.view_is) at c.requires.source in
    let has = rw (← c.self.view_is) at c.requires.has in
    let brand = rw (← c.self.view_is) at c.requires.brand in
    rw (← c.self.view_is) (taken_after_so c.self.inside.stores c.note_take.new.stores c.take_from-parcel.new.self c.self.inside.steps.items _ c.self.inside.movements.items _ c.self.inside.keys c.in-Ok.noted.keys c.self.inside.is_spoiled c.args.from.now (brand_of (lists_of c.self.inside.stores) c.args.from.now) c.brand-brand.result c.args.value c.in-Ok.noted.movement sound c.self.invariant c.in-Ok.ensures.roomed
    (subst (λ (s : Lists). IsTaken c.note_take.new.stores c.take_from-parcel.new.self c.args.from.now (brand_of s c.args.from.now) c.args.value) c.in-Ok.ensures.roomed.lists c.take_from-parcel.ensures.taken)
    (can_take (lists_of c.self.inside.stores) c.args.from.now c.args.value source has) c.brand-brand.ensures
    (c.push_reserved-2.ensures.items ∙ ap (λ (l : List Undo). l ++ Moves ∷ []) c.in-Ok.ensures.steps)
    (c.push_reserved.ensures.items ∙ ap (λ (l : List Movement). l ++ c.in-Ok.noted.movement ∷ []) c.in-Ok.ensures.movements)
    c.in-Ok.ensures.movement)

pub returns-in_default-clause-err : goal.returns-in_default-clause-err
returns-in_default-clause-err c = rw (← c.self.view_is) ((λ i. draft_of c.note_take.new.stores (c.in_default.ensures.steps i) (c.in_default.ensures.movements i) c.self.inside.is_spoiled) ∙ same_draft c.self.inside.stores c.note_take.new.stores c.self.inside.steps.items c.self.inside.movements.items c.self.inside.is_spoiled c.in_default.ensures.roomed)
