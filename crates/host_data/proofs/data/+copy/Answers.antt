use Rattle.std.proofs.Common.{ap}
use Rattle.host_data.specs.Tree.{fields}
use Rattle.host_data.specs.View.{fields_of}
use Rattle.host_data.proofs.Views.{tree-Record}
use Rattle.host_data.proofs.data.+copy.Goals as goal

pub copy_data-returns-in_ok-copy_fields-in-Record : goal.copy_data-returns-in_ok-copy_fields-in-Record
copy_data-returns-in_ok-copy_fields-in-Record t c =
    rw (c.in-Record.is, tree-Record c.in-Record.fields, tree-Record c.in_ok-copy_fields-in-Record.field-0, ← c.as_slice-in-Record.ensures.value)
    (ap (λ fs. fields (fields_of fs)) c.in_ok-copy_fields-in-Record.ensures)
