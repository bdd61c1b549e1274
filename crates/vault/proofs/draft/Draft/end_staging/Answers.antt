use Rattle.vault.proofs.Seated.{staged_keeps}
use Rattle.vault.proofs.draft.Draft.end_staging.Goals as goal

pub invariant_of-self : goal.invariant_of-self
invariant_of-self c = staged_keeps c.self.inside.stores c.self.inside.steps.items c.self.inside.movements.items c.self.inside.keys c.self.inside.is_spoiled _ c.end_staging.new.self c.self.invariant c.end_staging.ensures
