use Rattle.std.proofs.Common.{◌∙◌, sym, ap, subst}
use Rattle.vault.specs.Drafts.{HandGoes, IsClean, begun}
use Rattle.vault.proofs.HandLaws.{begun_clean, begun_goes}
use Rattle.vault.proofs.Steps.{begins, begins_so}
use Rattle.vault.proofs.draft.Vault.begin.Goals as goal

pub invariant_of-result : goal.invariant_of-result
invariant_of-result c = begins c.self.inside.stores c.self.inside.steps.items c.self.inside.movements.items c.self.invariant

pub returns-clause-begun : goal.returns-clause-begun
returns-clause-begun c = begins_so c.self.inside.stores c.self.inside.steps.items c.self.inside.movements.items c.self.invariant ∙ ap begun c.self.view_is

pub returns-clause-clean : goal.returns-clause-clean
returns-clause-clean c = subst IsClean (sym (begins_so c.self.inside.stores c.self.inside.steps.items c.self.inside.movements.items c.self.invariant ∙ ap begun c.self.view_is)) (begun_clean _)

pub returns-clause-goes : goal.returns-clause-goes
returns-clause-goes c = subst HandGoes (sym (begins_so c.self.inside.stores c.self.inside.steps.items c.self.inside.movements.items c.self.invariant ∙ ap begun c.self.view_is)) (begun_goes _)
