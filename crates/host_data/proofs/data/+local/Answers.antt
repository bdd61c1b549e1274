use Rattle.host_data.proofs.Views.{tree-Record}
use Rattle.host_data.proofs.data.+local.Goals as goal

pub holds_local-returns-in-Record : goal.holds_local-returns-in-Record
holds_local-returns-in-Record t c =
    rw (c.in-Record.is, tree-Record c.in-Record.fields, ← c.as_slice-in-Record.ensures.value) c.some_field_local.ensures
