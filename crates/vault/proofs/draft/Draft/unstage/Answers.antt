use Rattle.vault.proofs.Seated.{on_either, same_keeps, staged_keeps}
use Rattle.vault.proofs.draft.Draft.unstage.Goals as goal

pub invariant_of-self : goal.invariant_of-self
invariant_of-self c = on_either c.unstage.result (λ is. staged_keeps c.self.inside.stores c.self.inside.steps.items c.self.inside.movements.items c.self.inside.keys c.self.inside.is_spoiled _ c.unstage.new.self c.self.invariant is) (λ is. same_keeps c.self.inside.stores c.self.inside.steps.items c.self.inside.movements.items c.self.inside.keys c.self.inside.is_spoiled c.unstage.new.self c.self.invariant is) c.unstage.ensures.ok c.unstage.ensures.err
