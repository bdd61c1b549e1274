use Rattle.turn_records.proofs.InForm.{in_form}
use Rattle.turn_writer.proofs.Told.{turn_told}
use Rattle.turn_writer.proofs.turn_form.is_in_form.Goals as goal

pub returns : goal.returns
returns c f = in_form _ (turn_told _ c.has_types.ensures f)
