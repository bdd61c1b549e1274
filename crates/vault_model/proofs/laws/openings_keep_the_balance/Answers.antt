use Rattle.vault_model.specs.Tables.{no_hand}
use Rattle.vault_model.proofs.Sound.{sound_closed, sound_new_seat, sound_new_slot}
use Rattle.vault_model.proofs.laws.openings_keep_the_balance.Goals as goal

pub returns-clause-seat : goal.returns-clause-seat
returns-clause-seat c = λ lists instance proposal sound. sound_new_seat lists no_hand instance proposal sound

pub returns-clause-slot : goal.returns-clause-slot
returns-clause-slot c = λ lists n keyword b kind can. sound_new_slot lists no_hand n keyword b kind can.made can.is_open can.sound

pub returns-clause-closed : goal.returns-clause-closed
returns-clause-closed c = λ lists n can. sound_closed lists no_hand n can.made can.is_open can.sound
