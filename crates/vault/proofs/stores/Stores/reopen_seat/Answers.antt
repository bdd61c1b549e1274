use Rattle.std.proofs.Common.{◌∙◌}
use Rattle.vault.proofs.OpenedStores.{reopened_count, seat_made, seat_reopened}
use Rattle.vault.proofs.stores.Stores.reopen_seat.Goals as goal

pub returns : goal.returns
returns c = seat_reopened c.args.self.now c.reserve_slots.new.self c.undo_close.new.self c.args.seat _ (seat_made c.args.self.now c.args.seat c.requires.made) (c.open_slots-slots.ensures.slots ∙ reopened_count c.args.self.now c.args.seat c.undo_close.new.self (seat_made c.args.self.now c.args.seat c.requires.made) c.undo_close.ensures.back) c.in-Ok.ensures.ok c.undo_close.ensures.back
