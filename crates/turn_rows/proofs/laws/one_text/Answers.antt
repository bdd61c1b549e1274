use Rattle.turn_rows.proofs.InForm.{one_text_in_form}
use Rattle.turn_rows.proofs.laws.one_text.Goals as goal

pub returns : goal.returns
returns c = one_text_in_form
