use Rattle.std.proofs.Common.{◌≡◌}
use Rattle.serde_json.specs.View.{members_view}
use Rattle.message_lines.specs.FormTables.{form_view}
use Rattle.message_lines.proofs.FurtherFields.{first_further}
use Rattle.message_lines.proofs.messages.least_further.Given as goal

abbrev pub invariant-loop-name : goal.invariant-loop-name
invariant-loop-name l = first_further (form_view l.form) (members_view l.members.entries) ≡ first_further (form_view l.form) (members_view l.name-iterator)
