use Rattle.std.proofs.Common.{arith}
use Rattle.turn_records.proofs.Depth.{data_depth}
use Rattle.turn_records.proofs.Form.{data_is}
use Rattle.turn_records.proofs.data_rows.laws.data_is_in_form.Goals as goal

pub returns-clause-form : goal.returns-clause-form
returns-clause-form c = λ t is. data_is 0 t is

pub returns-clause-depth : goal.returns-clause-depth
returns-clause-depth c = λ t is. omega (arith, data_depth 0 t (omega arith) is)
