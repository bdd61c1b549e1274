use Rattle.std.proofs.Common.{◌↔◌, IsTrue, subst}
use Rattle.row_records.specs.Views.{value_view}
use Rattle.row_records.specs.amount_math.Content.{Contains}
use Rattle.row_records.specs.fair_rows.Values.{content_of}
use Rattle.row_records.specs.rights_model.Table.{holds}
use Rattle.told_rights.proofs.Counts.{if_ok}
use Rattle.told_rights.proofs.rights.Rights.has.Goals as goal

pub returns : goal.returns
returns c = λ e form. if_ok c.contains.result _ _
    (λ has h i t. subst (λ u. IsTrue has ↔ Contains (holds u c.args.holder.now c.args.brand) (content_of (value_view c.args.value.now))) t.places h)
    (c.contains.ensures e form)
