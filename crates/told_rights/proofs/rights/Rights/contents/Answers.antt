use Rattle.std.proofs.Common.{◌≡◌, subst}
use Rattle.row_records.specs.rights_model.Table.{holds}
use Rattle.told_rights.proofs.Counts.{if_ok}
use Rattle.told_rights.proofs.rights.Rights.contents.Goals as goal

pub returns : goal.returns
returns c = if_ok c.contents.result _ _ (λ held h i t. subst (λ u. held ≡ holds u c.args.holder.now c.args.brand) t.places h) c.contents.ensures
