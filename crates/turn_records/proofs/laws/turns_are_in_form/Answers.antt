use Rattle.turn_records.proofs.InForm.{in_form}
use Rattle.turn_records.proofs.laws.turns_are_in_form.Goals as goal

pub returns : goal.returns
returns c = in_form
