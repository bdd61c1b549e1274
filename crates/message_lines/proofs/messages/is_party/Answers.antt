use Rattle.std.proofs.Common.{◌≡◌, true, sym}
use Rattle.turn_records.specs.host_text.Words.{is_label}
use Rattle.message_lines.specs.Meanings.{begins_instance}
use Rattle.message_lines.proofs.messages.is_party.Goals as goal

pub returns-then-is_label : goal.returns-then-is_label
returns-then-is_label c =
    let form : is_label c.args.label.now ≡ true = rw c.as_bytes.ensures.value at (sym c.if-is_label.ensures) in
    let begins : c.starts_with.result ≡ begins_instance c.args.label.now = rw c.as_bytes-then-is_label.ensures.value at c.starts_with.ensures.value in
    rw (form, begins)
