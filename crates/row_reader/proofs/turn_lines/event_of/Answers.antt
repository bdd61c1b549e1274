use Rattle.std.proofs.Common.{◌≡◌, ℕ, Some, ap, codes, ◌∙◌}
use Rattle.serde_json.specs.Data as json
use Rattle.serde_json.specs.Find.{get_member}
use Rattle.serde_json.specs.View.{members_view}
use Rattle.turn_rows.specs.Form.{HasEventForm}
use Rattle.turn_rows.specs.Rows.{event_row}
use Rattle.turn_rows.specs.Turns.{Settlement}
use Rattle.row_records.specs.Views.{event_view}
use Rattle.row_reader.specs.Events.{HasSettledForm, settled_row}
use Rattle.row_reader.proofs.Faults.{passes}
use Rattle.row_reader.proofs.RowWords.{bad_settle}
use Rattle.row_reader.proofs.turn_lines.event_of.Goals as goal

pub returns-in_err-promise-in-settle : goal.returns-in_err-promise-in-settle
returns-in_err-promise-in-settle c =
    let ms : json.Members = members_view c.args.members.now.entries in
    let row : get_member (codes "row") ms ≡ Some (json.string (codes "settle")) = c.requires ∙ ap (λ s. Some (json.string s)) c.in-settle.is in
    passes event_row (HasEventForm c.args.edition) event_view (json.object ms)
    c.from_residual-in_err-promise-in-settle.result c.in_err-promise-in-settle.field-0.0
    ((y : ℕ × Settlement) → HasSettledForm y → settled_row y ≡ json.object ms → ⊥)
    c.from_residual-in_err-promise-in-settle.ensures.1 c.in_err-promise-in-settle.ensures
    (bad_settle c.args.edition ms row)
