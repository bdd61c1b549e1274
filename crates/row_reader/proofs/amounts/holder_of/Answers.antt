use Rattle.std.proofs.Common.{sym, subst}
use Rattle.row_reader.specs.Reads.{Reads}
use Rattle.turn_rows.specs.Form.{HasHolderForm}
use Rattle.turn_rows.specs.Rows.{holder_name}
use Rattle.row_reader.proofs.amounts.holder_of.Goals as goal

pub returns-in-Some : goal.returns-in-Some
returns-in-Some c = subst (λ t. Reads holder_name HasHolderForm (λ h. h) t c.slot_of.result) (sym c.in-Some.ensures.some) c.slot_of.ensures
