use Rattle.std.proofs.Common.{ap, sym, ◌∙◌, option_map}
use Rattle.jessie_semantics.specs.host_data.View.{tree}
use Rattle.jessie_machine.proofs.Places.{given_here, given_none, seen_copied}
use Rattle.jessie_machine.proofs.names.given_value.Goals as goal

pub returns-then-i-changed : goal.returns-then-i-changed
returns-then-i-changed c = seen_copied c.as_ref.result ∙ (ap (option_map tree) c.as_ref.ensures.value ∙ sym (given_here c.args.changed.now c.args.i c.index-changed-i.result c.if-i-changed.true c.index-changed-i.is))

pub returns-else-i-changed : goal.returns-else-i-changed
returns-else-i-changed c = sym (given_none c.args.changed.now c.args.i c.if-i-changed.false)
