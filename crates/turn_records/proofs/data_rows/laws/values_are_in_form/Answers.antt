use Rattle.turn_records.proofs.Values.{value_form}
use Rattle.turn_records.proofs.data_rows.laws.values_are_in_form.Goals as goal

pub returns : goal.returns
returns c = value_form
