use Rattle.turn_records.specs.Views.{event_view}
use Rattle.turn_writer.proofs.Floats.{flat_event}
use Rattle.turn_writer.proofs.push_event.Goals as goal

pub push_row-requires : goal.push_row-requires
push_row-requires c = rw c.in_ok-row.ensures (flat_event (event_view c.args.event.now))
