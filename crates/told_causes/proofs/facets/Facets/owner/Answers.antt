use Rattle.std.proofs.Common.{sym, ◌∙◌}
use Rattle.told_causes.proofs.Owners.{owner_kept}
use Rattle.told_causes.proofs.facets.Facets.owner.Goals as goal

pub returns-in-Some : goal.returns-in-Some
returns-in-Some c = λ os told. owner_kept c.args.self.now c.args.facet os c.ranges.facet.fits told _ (sym c.kept.ensures ∙ c.in-Some.is)

pub returns-in-None : goal.returns-in-None
returns-in-None c = λ os told. owner_kept c.args.self.now c.args.facet os c.ranges.facet.fits told _ (sym c.kept.ensures ∙ c.in-None.is)
