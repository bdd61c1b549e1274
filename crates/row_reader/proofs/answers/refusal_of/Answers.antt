use Rattle.std.proofs.Common.{◌≡◌, string_bytes, subst, sym, ◌∙◌}
use Rattle.serde_json.specs.View.{items_view, members_view, view}
use Rattle.turn_rows.specs.Form.{AreData}
use Rattle.row_reader.proofs.Clones.{items_copied}
use Rattle.row_reader.proofs.Named.{items_found, object_is, text_found}
use Rattle.row_reader.proofs.Refused.{refusal_read}
use Rattle.row_reader.proofs.answers.refusal_of.Goals as goal

pub returns : goal.returns
returns c =
    refusal_read (view c.args.value.now) (members_view c.in-Some.members.now.entries)
    c.in-Some-text_at.code.now (string_bytes c.in_ok-code.code)
    (items_view c.in-Some-items_at.shown.now.items) (items_view c.in_ok-clone.field-0.items)
    c.in_ok-code.ensures.ok (items_copied _ _ c.in_ok-clone.ensures.cases.0)
    (object_is _ _ c.in-Some.ensures) (c.has_names.ensures.0 c.if-not-has_names.false)
    (text_found _ _ c.in-Some-text_at.ensures) (items_found _ _ c.in-Some-items_at.ensures)
    (sym c.is_refusal_code.ensures ∙ c.if-not-is_refusal_code.false)
    (subst (λ vs. AreData (items_view vs)) c.as_slice.ensures.value (c.are_data.ensures.0 c.if-not-are_data.false))
