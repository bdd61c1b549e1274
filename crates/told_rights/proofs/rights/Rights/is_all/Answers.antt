use Rattle.std.proofs.Common.{◌≡◌, ◌↔◌, IsTrue, subst}
use Rattle.row_records.specs.Views.{value_view}
use Rattle.row_records.specs.fair_rows.Amounts.{IsPrinted}
use Rattle.row_records.specs.fair_rows.Values.{content_of}
use Rattle.row_records.specs.rights_model.Table.{holds}
use Rattle.told_rights.proofs.Counts.{if_ok}
use Rattle.told_rights.proofs.rights.Rights.is_all.Goals as goal

pub returns-clause-all : goal.returns-clause-all
returns-clause-all c = λ e form. if_ok c.is_all.result _ _
    (λ is h i t. subst (λ u. IsTrue is ↔ (holds u c.args.holder.now c.args.brand ≡ content_of (value_view c.args.value.now))) t.places h)
    (c.is_all.ensures.content e form)

pub returns-clause-printed : goal.returns-clause-printed
returns-clause-printed c = λ e form. if_ok c.is_all.result _ _
    (λ is h i t. subst (λ u. IsTrue is ↔ IsPrinted (holds u c.args.holder.now c.args.brand) (value_view c.args.value.now)) t.places h)
    (c.is_all.ensures.printed e form)
