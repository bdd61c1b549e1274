use Rattle.std.proofs.Common.{List, ℕ, subst, IfOk, IsTrue}
use Rattle.std.specs.Prelude.{◌↔◌}
use Rattle.row_records.specs.Views.{value_view}
use Rattle.row_records.specs.amount_math.Content.{Contains}
use Rattle.row_records.specs.fair_rows.Rows.{InTurn}
use Rattle.row_records.specs.fair_rows.Values.{content_of}
use Rattle.row_records.specs.rights_model.Table.{holds}
use Rattle.row_records.specs.rights_model.declared.Holder.TheVariants.{Slot}
use Rattle.told_rights.specs.Rights.{TellsRights}
use Rattle.told_seats.proofs.covered.is_covered.Goals as goal

pub returns : goal.returns
returns c = λ e form.
    subst
    (λ (w : List ℕ). IfOk c.has.result (λ is. (i : InTurn) → TellsRights c.args.rights.now i → IsTrue is ↔ Contains (holds i.now.table (Slot c.args.seat w) c.args.amount.now.brand) (content_of (value_view c.args.amount.now.value))))
    c.in_ok-keyword.ensures (c.has.ensures e form.value)
