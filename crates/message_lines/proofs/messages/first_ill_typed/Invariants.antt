use Rattle.std.proofs.Common.{◌≡◌, drop}
use Rattle.serde_json.specs.View.{members_view}
use Rattle.message_lines.specs.FormTables.{form_view}
use Rattle.message_lines.specs.Meanings.{first_ill_typed}
use Rattle.message_lines.proofs.messages.first_ill_typed.Given as goal

abbrev pub invariant-loop-field : goal.invariant-loop-field
invariant-loop-field l =
    first_ill_typed (form_view l.form) (members_view l.members.entries) ≡ first_ill_typed (form_view (drop l.field-index l.form)) (members_view l.members.entries)
