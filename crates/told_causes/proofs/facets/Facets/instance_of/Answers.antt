use Rattle.std.specs.Prelude.{IfSome, codes}
use Rattle.std.proofs.Common.{◌≡◌, subst, sym, ◌∙◌}
use Rattle.row_records.specs.Views.{kind_view, turn_view}
use Rattle.row_records.specs.fair_rows.ExitCauses.{name}
use Rattle.row_records.specs.turn_rows.Form.{IsNumbered, objects_end}
use Rattle.told_causes.proofs.Owners.{facet_form, facet_instance, instance_named, no_instance}
use Rattle.told_causes.proofs.facets.Facets.instance_of.Goals as goal

pub returns-then-is_by_instance : goal.returns-then-is_by_instance
returns-then-is_by_instance c = λ os told. instance_named os (kind_view c.args.row.now.kind) (turn_view c.args.row.now) (sym c.is_by_instance.ensures ∙ c.if-is_by_instance.true) c.requires.form.delivered c.number_in.result
    (subst (λ s. IfSome c.number_in.result (λ n. s ≡ name (codes "instance") n)) c.as_str.ensures.value c.number_in.ensures.some)
    (λ is numbered. c.number_in.ensures.none is (subst (IsNumbered (codes "instance") objects_end) (sym c.as_str.ensures.value) numbered))

pub returns-in-Facet : goal.returns-in-Facet
returns-in-Facet c = λ os told. facet_instance os (turn_view c.args.row.now) c.args.row.now.kind _ c.in-Facet.is (c.called_instance.ensures os told)

pub returns-in_default : goal.returns-in_default
returns-in_default c = λ os told. no_instance os c.args.row.now.kind (turn_view c.args.row.now) (sym c.is_by_instance.ensures ∙ c.if-is_by_instance.false) c.in_default.not-Facet

pub called_instance-requires : goal.called_instance-requires
called_instance-requires c = record { form = facet_form (turn_view c.args.row.now) c.args.row.now.kind c.in-Facet.is c.requires.form.delivered }
