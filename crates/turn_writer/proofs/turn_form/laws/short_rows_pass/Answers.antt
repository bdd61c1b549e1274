use Rattle.turn_writer.proofs.RowSizes.{short_rows_pass}
use Rattle.turn_writer.proofs.turn_form.laws.short_rows_pass.Goals as goal

pub returns : goal.returns
returns c = short_rows_pass
