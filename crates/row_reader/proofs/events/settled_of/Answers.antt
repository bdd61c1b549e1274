use Rattle.std.proofs.Common.{◌≡◌, ◌<◌, ◌^◌, ◌++◌, ℕ, List, Some, sym}
use Rattle.std.specs.Fmt.{decimal}
use Rattle.std.specs.Prelude.{codes}
use Rattle.serde_json.specs.Data as json
use Rattle.serde_json.specs.Find.{get_member}
use Rattle.serde_json.specs.View.{members_view, view}
use Rattle.row_reader.proofs.Faults.{passes}
use Rattle.row_reader.proofs.Named.{no_object, no_text}
use Rattle.row_reader.proofs.ValueParts.{no_names}
use Rattle.row_records.specs.Views.{settlement_view}
use Rattle.turn_rows.specs.Form.{HasSettlementForm}
use Rattle.turn_rows.specs.Rows.{settlement_json, whole}
use Rattle.turn_rows.specs.Turns.{Settlement}
use Rattle.row_reader.proofs.EventParts.{data_same, got, named, no_found, settle_is}
use Rattle.row_reader.specs.Events.{HasSettledForm, settled_row, settled_view}
use Rattle.row_reader.proofs.events.settled_of.Goals as goal

pub returns-then-not-has_names : goal.returns-then-not-has_names
returns-then-not-has_names c = λ x form same. no_names c.has_names.result _ _ c.has_names.ensures.1 c.if-not-has_names.true (named _ _ same)

pub returns-in_default : goal.returns-in_default
returns-in_default c = λ x form same. no_found _ _ c.in_default.ensures (got (codes "to") _ _ same)

pub returns-in_err-promise : goal.returns-in_err-promise
returns-in_err-promise c =
    passes settled_row HasSettledForm settled_view (json.object (members_view c.args.members.now.entries)) c.from_residual.result c.in_err-promise.field-0.0
    ((n : ℕ) → n < 2 ^ 32 → Some (whole n) ≡ get_member (codes "promise") (members_view c.args.members.now.entries) → ⊥) c.from_residual.ensures.1 c.in_err-promise.ensures
    (λ none x form same. none x.0 form.0 (sym (got (codes "promise") _ _ same)))

pub returns-in_err-settlement : goal.returns-in_err-settlement
returns-in_err-settlement c =
    passes settled_row HasSettledForm settled_view (json.object (members_view c.args.members.now.entries)) c.from_residual-in_err-settlement.result c.in_err-settlement.field-0.0
    ((s : Settlement) → HasSettlementForm s → settlement_json s ≡ view c.in-Some.settlement.now → ⊥) c.from_residual-in_err-settlement.ensures.1 c.in_err-settlement.ensures
    (λ none x form same. none x.1 form.1 (data_same _ _ _ c.in-Some.ensures (got (codes "to") _ _ same)))

pub returns : goal.returns
returns c = (
  settle_is _ (settlement_view c.in_ok-settlement.settlement) (members_view c.args.members.now.entries) (view c.in-Some.settlement.now) (c.has_names.ensures.0 c.if-not-has_names.false) c.requires c.in_ok-promise.ensures.0 c.in-Some.ensures c.in_ok-settlement.ensures.0,
  (c.in_ok-promise.ensures.1, c.in_ok-settlement.ensures.1),
)
