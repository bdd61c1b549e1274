use Rattle.std.proofs.Common.{is_some, ap, sym, ◌∙◌}
use Rattle.told_causes.proofs.Owners.{added_new, added_there}
use Rattle.told_causes.proofs.facets.Facets.add.Goals as goal

pub returns-then-is_some : goal.returns-then-is_some
returns-then-is_some c = added_there c.args.self.now c.args.facet c.args.instance (sym (ap (λ o. is_some o) c.kept.ensures) ∙ sym c.is_some.ensures ∙ c.if-is_some.true)

pub returns-in-Ok : goal.returns-in-Ok
returns-in-Ok c = added_new c.args.self.now (record { owners = c.insert.new.self }) c.args.facet c.args.instance (sym (ap (λ o. is_some o) c.kept.ensures) ∙ sym c.is_some.ensures ∙ c.if-is_some.false) c.in-Ok.ensures.updates.0
