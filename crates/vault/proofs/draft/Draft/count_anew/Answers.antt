use Rattle.vault.proofs.Steps.{counted_anew}
use Rattle.vault.proofs.draft.Draft.count_anew.Goals as goal

pub invariant_of-self : goal.invariant_of-self
invariant_of-self c = counted_anew c.self.inside.stores c.self.inside.steps.items c.self.inside.movements.items c.self.inside.keys c.self.inside.is_spoiled c.self.invariant (rw (← c.self.view_is) at c.requires)
