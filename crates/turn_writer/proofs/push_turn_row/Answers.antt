use Rattle.turn_records.specs.Views.{turn_view}
use Rattle.turn_writer.proofs.Floats.{flat_turn}
use Rattle.turn_writer.proofs.push_turn_row.Goals as goal

pub push_row-requires : goal.push_row-requires
push_row-requires c = rw c.in_ok-row.ensures (flat_turn (turn_view c.args.turn.now))
