use Rattle.turn_records.proofs.Values.{values_alike}
use Rattle.turn_records.proofs.data_rows.laws.values_print_alike.Goals as goal

pub returns : goal.returns
returns c = values_alike
