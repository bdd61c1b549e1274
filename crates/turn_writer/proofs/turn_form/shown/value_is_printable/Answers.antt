use Rattle.turn_writer.proofs.Nodes.{value_printable}
use Rattle.turn_writer.proofs.turn_form.shown.value_is_printable.Goals as goal

pub returns : goal.returns
returns c = value_printable c.args.shown.now c.value_has_types.ensures
