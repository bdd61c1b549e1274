use Rattle.row_reader.proofs.Arguments.{one_item}
use Rattle.row_reader.proofs.delivered.is_one.Goals as goal

pub returns : goal.returns
returns c = one_item c.args.arguments.now
