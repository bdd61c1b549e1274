use Rattle.std.proofs.Common.{◌≡◌, ◌<◌, ◌^◌, ℕ, Some, ap, codes, ◌∙◌}
use Rattle.serde_json.specs.Data as json
use Rattle.serde_json.specs.Find.{get_member}
use Rattle.serde_json.specs.View.{members_view, view}
use Rattle.turn_rows.specs.Editions.{version_row}
use Rattle.turn_rows.specs.Rows.{close_row}
use Rattle.turn_rows.specs.declared.editions.Edition.TheVariants.{Second}
use Rattle.row_records.specs.Views.{row_view}
use Rattle.row_records.specs.journal_rows.Row.{MayBeRow, row_json}
use Rattle.row_reader.proofs.Faults.{passes}
use Rattle.row_reader.proofs.Named.{object_is, text_found}
use Rattle.row_reader.proofs.RowWords.{bad_close, bad_version}
use Rattle.row_reader.proofs.turn_lines.row_in.Goals as goal

pub sum_of-requires : goal.sum_of-requires
sum_of-requires c = text_found _ _ c.in-Some-text_at.ensures ∙ ap (λ s. Some (json.string s)) c.in-sum.is

pub close_of-requires : goal.close_of-requires
close_of-requires c = text_found _ _ c.in-Some-text_at.ensures ∙ ap (λ s. Some (json.string s)) c.in-close.is

pub event_of-requires : goal.event_of-requires
event_of-requires c = text_found _ _ c.in-Some-text_at.ensures

pub returns-in_err-version_of-in-version : goal.returns-in_err-version_of-in-version
returns-in_err-version_of-in-version c =
    let ms : json.Members = members_view c.in-Some.members.now.entries in
    let row : get_member (codes "row") ms ≡ Some (json.string (codes "version")) =
    text_found _ _ c.in-Some-text_at.ensures ∙ ap (λ s. Some (json.string s)) c.in-version.is in
    let is : view c.args.value.now ≡ json.object ms = object_is _ _ c.in-Some.ensures in
    passes (row_json c.args.edition) (MayBeRow c.args.edition) row_view (view c.args.value.now)
    c.from_residual.result c.in_err-version_of-in-version.field-0.0
    ((y : Unit {0}) → c.args.edition ≡ Second → version_row ≡ json.object ms → ⊥)
    c.from_residual.ensures.1 c.in_err-version_of-in-version.ensures
    (λ bad r form same. bad_version c.args.edition ms row bad r form (same ∙ is))

pub returns-in_err-left-in-close : goal.returns-in_err-left-in-close
returns-in_err-left-in-close c =
    let ms : json.Members = members_view c.in-Some.members.now.entries in
    let row : get_member (codes "row") ms ≡ Some (json.string (codes "close")) =
    text_found _ _ c.in-Some-text_at.ensures ∙ ap (λ s. Some (json.string s)) c.in-close.is in
    let is : view c.args.value.now ≡ json.object ms = object_is _ _ c.in-Some.ensures in
    passes (row_json c.args.edition) (MayBeRow c.args.edition) row_view (view c.args.value.now)
    c.from_residual-in_err-left-in-close.result c.in_err-left-in-close.field-0.0
    ((y : ℕ × ℕ) → (y.0 < 2 ^ 64) × (y.1 < 2 ^ 64) → close_row y.0 y.1 ≡ json.object ms → ⊥)
    c.from_residual-in_err-left-in-close.ensures.1 c.in_err-left-in-close.ensures
    (λ bad r form same. bad_close c.args.edition ms row bad r form (same ∙ is))
