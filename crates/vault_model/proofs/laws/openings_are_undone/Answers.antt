use Rattle.vault_model.specs.Tables.{no_hand}
use Rattle.vault_model.proofs.Sound.{owes_its_slots}
use Rattle.vault_model.proofs.Undone.{reopened, unopened_slot, unseated}
use Rattle.vault_model.proofs.laws.openings_are_undone.Goals as goal

pub returns-clause-seat : goal.returns-clause-seat
returns-clause-seat c = λ lists instance proposal. unseated lists instance proposal

pub returns-clause-slot : goal.returns-clause-slot
returns-clause-slot c = λ lists n keyword b kind made. unopened_slot lists n made keyword b kind

pub returns-clause-closed : goal.returns-clause-closed
returns-clause-closed c = λ lists n can. reopened lists n can.made can.is_open (owes_its_slots lists no_hand can.sound n can.made can.is_open)
