use Rattle.std.proofs.Common.{◌∙◌}
use Rattle.vault.proofs.Steps.{committed, committed_table, forget_starts}
use Rattle.vault.proofs.draft.Draft.commit.Goals as goal

pub forget_all-requires : goal.forget_all-requires
forget_all-requires c = forget_starts c.self.inside.stores c.self.inside.steps.items c.self.inside.movements.items c.self.inside.keys c.self.inside.is_spoiled c.self.invariant

pub invariant_of-result : goal.invariant_of-result
invariant_of-result c = committed c.self.inside.stores c.forget_all.new.stores c.end_staging.new.self c.self.inside.steps.items _ c.self.inside.movements.items _ c.self.inside.keys c.self.inside.is_spoiled c.self.invariant c.forget_all.ensures.stores c.end_staging.ensures.lists c.end_staging.ensures.staging c.end_staging.ensures.transit c.clear.ensures.items c.forget_all.ensures.movements (rw (← c.self.view_is) at c.requires)

pub returns-clause-now : goal.returns-clause-now
returns-clause-now c = rw (← c.self.view_is) (c.end_staging.ensures.lists ∙ c.forget_all.ensures.stores.lists)

pub returns-clause-table : goal.returns-clause-table
returns-clause-table c = rw (← c.self.view_is) (committed_table c.self.inside.stores c.forget_all.new.stores c.end_staging.new.self c.self.inside.steps.items c.self.inside.movements.items c.self.inside.keys c.self.inside.is_spoiled c.self.invariant c.forget_all.ensures.stores c.end_staging.ensures.lists (rw (← c.self.view_is) at c.requires))
