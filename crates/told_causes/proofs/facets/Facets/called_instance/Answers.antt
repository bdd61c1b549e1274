use Rattle.std.proofs.Common.{refl, subst, ap, sym, ◌∙◌}
use Rattle.std.specs.Prelude.{codes}
use Rattle.row_records.specs.fair_rows.ExitCauses.{owner_in}
use Rattle.row_records.specs.turn_rows.Form.{IsNumbered, objects_end}
use Rattle.told_causes.proofs.facets.Facets.called_instance.Goals as goal

pub returns-in-Some : goal.returns-in-Some
returns-in-Some c = λ os told. c.owner.ensures os told ∙ ap (λ s. owner_in s os) (sym c.in-Some.ensures.some ∙ c.as_str.ensures.value)

pub returns-in-None : goal.returns-in-None
returns-in-None c = λ os told. absurd (c.in-None.ensures.none refl (subst (IsNumbered (codes "facet") objects_end) (sym c.as_str.ensures.value) c.requires.form))
