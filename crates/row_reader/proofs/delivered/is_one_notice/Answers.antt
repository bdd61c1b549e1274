use Rattle.std.proofs.Common.{arith}
use Rattle.turn_rows.specs.Form.{IsNotice}
use Rattle.row_reader.proofs.Arguments.{not_one}
use Rattle.row_reader.proofs.DataForm.{no}
use Rattle.row_reader.proofs.delivered.is_one_notice.Goals as goal

pub returns-in_default-2 : goal.returns-in_default-2
returns-in_default-2 c = no (not_one IsNotice c.args.arguments.now (omega (arith, c.in_default.len_at_least)))
