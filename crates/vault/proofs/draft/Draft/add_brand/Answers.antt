use Rattle.std.proofs.Common.{◌∙◌, sym, ap, List, [], ◌∷◌, ◌++◌}
use Rattle.vault_model.specs.declared.Undo.{Undo}
use Rattle.vault_model.specs.declared.Undo.TheVariants.{AddsBrand}
use Rattle.vault.specs.Drafts.{draft_of, with_brand}
use Rattle.vault.proofs.OpenedDrafts.{added_after, added_keeps}
use Rattle.vault.proofs.draft.Draft.add_brand.Goals as goal

pub invariant_of-self-2 : goal.invariant_of-self-2
invariant_of-self-2 c =
    let sound = rw (← c.self.view_is) at c.requires.sound in
    rw (c.push_reserved.ensures.items, c.reserve.ensures.items, sound)
    (added_keeps c.self.inside.stores c.self.inside.steps.items c.self.inside.movements.items c.self.inside.keys c.args.kind (rw sound at c.self.invariant) c.add_brand.new.self c.in_ok-add_brand.ensures.ok c.add_brand.ensures.same)

pub returns-clause-ok : goal.returns-clause-ok
returns-clause-ok c =
    let sound = rw (← c.self.view_is) at c.requires.sound in
    rw (← c.self.view_is)
    ((λ i. draft_of (record c.self.inside.stores { transit = c.add_brand.new.self }) ((c.push_reserved.ensures.items ∙ ap (λ (l : List Undo). l ++ AddsBrand ∷ []) c.reserve.ensures.items) i) c.self.inside.movements.items (sound i))
    ∙ added_after c.self.inside.stores c.self.inside.steps.items c.self.inside.movements.items c.self.inside.keys c.args.kind (rw sound at c.self.invariant) c.add_brand.new.self c.in_ok-add_brand.ensures.ok c.add_brand.ensures.same
    ∙ ap (λ t. with_brand (draft_of c.self.inside.stores c.self.inside.steps.items c.self.inside.movements.items t) c.args.kind) (sym sound))
