use Rattle.std.proofs.Common.{◌≡◌, ◌<◌, ◌^◌, ◌++◌, ℕ, List, Some}
use Rattle.std.specs.Fmt.{decimal}
use Rattle.std.specs.Prelude.{codes}
use Rattle.serde_json.specs.Data as json
use Rattle.serde_json.specs.Find.{get_member}
use Rattle.serde_json.specs.View.{members_view, view}
use Rattle.row_reader.proofs.Faults.{passes}
use Rattle.row_reader.proofs.Named.{no_object, no_text}
use Rattle.row_reader.proofs.ValueParts.{no_names}
use Rattle.row_records.specs.Views.{move_view, value_view}
use Rattle.turn_rows.specs.Form.{HasHolderForm, HasValueForm}
use Rattle.turn_rows.specs.Rows.{brand_name, holder_name, move_row, value_json}
use Rattle.turn_rows.specs.Turns.{Value}
use Rattle.turn_rows.specs.rights_model.declared.Holder.{Holder}
use Rattle.row_reader.proofs.EventParts.{data_same, got, move_is, named, no_found, text_same}
use Rattle.row_reader.specs.Events.{HasMoveForm}
use Rattle.row_reader.proofs.events.move_of.Goals as goal

pub returns-then-not-has_names : goal.returns-then-not-has_names
returns-then-not-has_names c = λ x form same. no_names c.has_names.result _ _ c.has_names.ensures.1 c.if-not-has_names.true (named _ _ same)

pub returns-in_default : goal.returns-in_default
returns-in_default c = λ x form same. no_text _ _ c.in_default.ensures (got (codes "brand") _ _ same)

pub returns-in_default-text_at : goal.returns-in_default-text_at
returns-in_default-text_at c = λ x form same. no_text _ _ c.in_default-text_at.ensures (got (codes "from") _ _ same)

pub returns-in_default-text_at-2 : goal.returns-in_default-text_at-2
returns-in_default-text_at-2 c = λ x form same. no_text _ _ c.in_default-text_at-2.ensures (got (codes "to") _ _ same)

pub returns-in_default-member : goal.returns-in_default-member
returns-in_default-member c = λ x form same. no_found _ _ c.in_default-member.ensures (got (codes "value") _ _ same)

pub returns-in_err-brand : goal.returns-in_err-brand
returns-in_err-brand c =
    passes move_row (HasMoveForm c.args.edition) move_view (json.object (members_view c.args.members.now.entries)) c.from_residual.result c.in_err-brand.field-0.0
    ((n : ℕ) → n < 2 ^ 16 → brand_name n ≡ c.in-Some.brand.now → ⊥) c.from_residual.ensures.1 c.in_err-brand.ensures
    (λ none x form same. none x.brand form.0 (text_same _ _ _ c.in-Some.ensures (got (codes "brand") _ _ same)))

pub returns-in_err-from : goal.returns-in_err-from
returns-in_err-from c =
    passes move_row (HasMoveForm c.args.edition) move_view (json.object (members_view c.args.members.now.entries)) c.from_residual-in_err-from.result c.in_err-from.field-0.0
    ((h : Holder) → HasHolderForm h → holder_name h ≡ c.in-Some-text_at.from.now → ⊥) c.from_residual-in_err-from.ensures.1 c.in_err-from.ensures
    (λ none x form same. none x.from form.1 (text_same _ _ _ c.in-Some-text_at.ensures (got (codes "from") _ _ same)))

pub returns-in_err-to : goal.returns-in_err-to
returns-in_err-to c =
    passes move_row (HasMoveForm c.args.edition) move_view (json.object (members_view c.args.members.now.entries)) c.from_residual-in_err-to.result c.in_err-to.field-0.0
    ((h : Holder) → HasHolderForm h → holder_name h ≡ c.in-Some-text_at-2.to.now → ⊥) c.from_residual-in_err-to.ensures.1 c.in_err-to.ensures
    (λ none x form same. none x.to form.2 (text_same _ _ _ c.in-Some-text_at-2.ensures (got (codes "to") _ _ same)))

pub returns-in_err-value : goal.returns-in_err-value
returns-in_err-value c =
    passes move_row (HasMoveForm c.args.edition) move_view (json.object (members_view c.args.members.now.entries)) c.from_residual-in_err-value.result c.in_err-value.field-0.0
    ((v : Value) → HasValueForm c.args.edition v → value_json v ≡ view c.in-Some-member.value.now → ⊥) c.from_residual-in_err-value.ensures.1 c.in_err-value.ensures
    (λ none x form same. none x.value form.3 (data_same _ _ _ c.in-Some-member.ensures (got (codes "value") _ _ same)))

pub returns : goal.returns
returns c = (
  move_is (record { brand = c.in_ok-brand.brand; from = c.in_ok-from.from; to = c.in_ok-to.to; value = value_view c.in_ok-value.value }) (members_view c.args.members.now.entries) c.in-Some.brand.now c.in-Some-text_at.from.now c.in-Some-text_at-2.to.now (view c.in-Some-member.value.now) (c.has_names.ensures.0 c.if-not-has_names.false) c.requires c.in-Some.ensures
      c.in-Some-text_at.ensures c.in-Some-text_at-2.ensures c.in-Some-member.ensures c.in_ok-brand.ensures.0 c.in_ok-from.ensures.0 c.in_ok-to.ensures.0 c.in_ok-value.ensures.0,
  (c.in_ok-brand.ensures.1, c.in_ok-from.ensures.1, c.in_ok-to.ensures.1, c.in_ok-value.ensures.1),
)
