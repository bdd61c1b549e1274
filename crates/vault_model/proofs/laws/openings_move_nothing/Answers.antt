use Rattle.vault_model.specs.Lists.{with_closed_seat, with_new_seat, with_new_slot}
use Rattle.vault_model.specs.Tables.{no_hand, table_of}
use Rattle.vault_model.proofs.Agreeing.{agrees_closed, agrees_new_seat, agrees_new_slot, one_table, table_agrees}
use Rattle.vault_model.proofs.laws.openings_move_nothing.Goals as goal

pub returns-clause-seat : goal.returns-clause-seat
returns-clause-seat c = λ lists instance proposal.
    let after = with_new_seat lists instance proposal in
    one_table after no_hand (table_of after) (table_of lists) (table_agrees after) (agrees_new_seat lists no_hand (table_of lists) instance proposal (table_agrees lists))

pub returns-clause-slot : goal.returns-clause-slot
returns-clause-slot c = λ lists n keyword b kind made.
    let after = with_new_slot lists n keyword b kind in
    one_table after no_hand (table_of after) (table_of lists) (table_agrees after) (agrees_new_slot lists n keyword b kind no_hand (table_of lists) made (table_agrees lists))

pub returns-clause-closed : goal.returns-clause-closed
returns-clause-closed c = λ lists n.
    let after = with_closed_seat lists n in
    one_table after no_hand (table_of after) (table_of lists) (table_agrees after) (agrees_closed lists no_hand (table_of lists) n (table_agrees lists))
