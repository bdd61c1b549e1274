use Rattle.vault.proofs.OpenedStores.{open_count, is_open_here, seat_closed}
use Rattle.std.proofs.Common.{◌∙◌}
use Rattle.vault.proofs.stores.Stores.close_seat.Goals as goal

pub returns-in-Ok-clause-ok : goal.returns-in-Ok-clause-ok
returns-in-Ok-clause-ok c = seat_closed c.args.self.now c.undo_reserve_slots.new.self c.close.new.self c.args.seat _ (c.open_slots-slots.ensures.slots ∙ open_count c.args.self.now c.args.seat (is_open_here c.args.self.now c.args.seat c.requires.is_open)) c.undo_reserve_slots.ensures c.in-Ok.ensures.ok
