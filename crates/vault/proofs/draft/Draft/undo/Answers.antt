use Rattle.std.proofs.Common.{◌≡◌, List, [], ◌++◌, reverse, sym, ◌∙◌, ap, subst, arith}
use Rattle.vault_model.specs.declared.Undo.{Undo}
use Rattle.vault_model.specs.Backwards.{all_back}
use Rattle.vault.specs.Memory.{lists_of, rooms_of}
use Rattle.vault.specs.Drafts.{IsVault}
use Rattle.vault.proofs.Steps.{ended, last_first, no_items, starts}
use Rattle.vault.proofs.draft.Draft.undo.Goals as goal

pub loop-step-init : goal.loop-step-init
loop-step-init c = starts c.self.inside.stores c.self.inside.steps.items c.self.inside.movements.items c.self.inside.keys c.self.inside.is_spoiled c.self.invariant (rw (← c.self.view_is) at c.requires)

pub loop-step-preserved : goal.loop-step-preserved
loop-step-preserved c = c.work_back.ensures _ _ _ (rw (c.in-Some.ensures.items, last_first) at c.loop-step.invariant)

pub invariant_of-result : goal.invariant_of-result
invariant_of-result c =
    let gone : c.pop.new.self.items ≡ [] = no_items c.pop.new.self.items (omega (arith, c.in_default.ensures.cases.1)) in
    let none : c.loop-step.steps.items ≡ [] = c.in_default.ensures.items ∙ ap (λ (l : List Undo). l ++ []) gone in
    subst (λ (l : List Undo). IsVault c.end_staging.new.self l c.loop-step.movements.items) (none ∙ sym gone)
    (ended (rooms_of c.self.inside.stores) (all_back (lists_of c.self.inside.stores) (reverse c.self.inside.steps.items) (reverse c.self.inside.movements.items)) c.loop-step.stores c.end_staging.new.self c.loop-step.steps.items c.loop-step.movements.items c.self.invariant.valid.was_sound none c.loop-step.invariant c.end_staging.ensures.lists c.end_staging.ensures.staging c.end_staging.ensures.transit).1
