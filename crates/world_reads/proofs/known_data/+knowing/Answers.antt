use Rattle.refusals.proofs.host_data.Views.{tree-Record}
use Rattle.world_reads.proofs.known_data.+knowing.Goals as goal

pub knows-returns-in-Record : goal.knows-returns-in-Record
knows-returns-in-Record t c =
    rw (c.in-Record.is, tree-Record c.in-Record.fields, ← c.as_slice-in-Record.ensures.value) c.knows_record.ensures
