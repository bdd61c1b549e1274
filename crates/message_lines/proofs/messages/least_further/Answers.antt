use Rattle.std.proofs.Common.{◌≡◌, Some, None, false, ap, sym, ◌∙◌, string_bytes}
use Rattle.serde_json.specs.View.{members_view}
use Rattle.message_lines.specs.FormTables.{form_view}
use Rattle.message_lines.specs.Meanings.{is_field_of}
use Rattle.message_lines.proofs.FurtherFields.{first_further, first_is_least}
use Rattle.message_lines.proofs.messages.least_further.Goals as goal

pub returns-then-not-is_field_of : goal.returns-then-not-is_field_of
returns-then-not-is_field_of c =
    let form = form_view c.args.form.now in
    let further : is_field_of form (string_bytes c.in-Some.name.now) ≡ false = rw c.as_str.ensures.value at (sym c.if-not-is_field_of.ensures) in
    let here : first_further form (members_view c.loop-name.name-iterator) ≡ Some (string_bytes c.in-Some.name.now) =
    ap (λ es. first_further form (members_view es)) c.in-Some.ensures.steps ∙ rw further in
    rw c.as_str-then-not-is_field_of.ensures.value
    (sym (first_is_least form c.args.members.now.entries c.iter-name-items.ensures.ordered ∙ c.loop-name.invariant ∙ here))

pub returns : goal.returns
returns c =
    let form = form_view c.args.form.now in
    let here : first_further form (members_view c.loop-name.name-iterator) ≡ None = ap (λ es. first_further form (members_view es)) c.in-None.ensures.steps.0 in
    sym (first_is_least form c.args.members.now.entries c.iter-name-items.ensures.ordered ∙ c.loop-name.invariant ∙ here)
