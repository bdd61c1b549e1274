use Rattle.std.proofs.Common.{ap, ◌∙◌}
use Rattle.host_data.specs.Tree.{array, fields}
use Rattle.host_data.specs.View.{items_of}
use Rattle.host_data.proofs.Views.{tree-Array, tree-Record}
use Rattle.jessie_values.proofs.Constants.{constant-Array, constant-Record}
use Rattle.jessie_values.specs.Records.{record_of}
use Rattle.jessie_values.proofs.literals.+constant.Goals as goal

pub constant_data-returns-in_ok-items_data-in-Array : goal.constant_data-returns-in_ok-items_data-in-Array
constant_data-returns-in_ok-items_data-in-Array t c =
    rw (c.in-Array.is, tree-Array c.in_ok-items_data-in-Array.field-0, constant-Array c.in-Array.constants, ← c.as_slice.ensures)
    (ap (λ vs. array (items_of vs)) c.in_ok-items_data-in-Array.ensures)

pub constant_data-returns-in_ok-in_order-in-Record : goal.constant_data-returns-in_ok-in_order-in-Record
constant_data-returns-in_ok-in_order-in-Record t c =
    rw (c.in-Record.is, tree-Record c.in_ok-in_order-in-Record.field-0, constant-Record c.in-Record.constants, ← c.as_slice-in-Record.ensures)
    (ap fields (c.in_ok-in_order-in-Record.ensures ∙ ap record_of c.in_ok-fields-in-Record.ensures))
