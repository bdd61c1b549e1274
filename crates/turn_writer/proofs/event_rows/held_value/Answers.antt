use Rattle.turn_records.proofs.Values.{values_alike}
use Rattle.turn_writer.proofs.event_rows.held_value.Goals as goal

pub returns : goal.returns
returns c = rw (values_alike c.args.held.now, ← c.in_ok-held.ensures) c.data_value.ensures
