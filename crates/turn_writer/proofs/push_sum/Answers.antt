use Rattle.turn_writer.proofs.FirstRows.{flat_sum}
use Rattle.turn_writer.proofs.push_sum.Goals as goal

pub push_row-requires : goal.push_row-requires
push_row-requires c = rw c.in_ok-row.ensures (flat_sum c.args.edition c.args.sum.now)
