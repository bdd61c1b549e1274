use Rattle.vault.proofs.OpenedStores.{seat_made, slot_unopened}
use Rattle.vault.proofs.stores.Stores.unopen_slot.Goals as goal

pub returns : goal.returns
returns c = slot_unopened c.args.self.now c.undo_reserve_slots.new.self c.undo_open_slot.new.self c.args.seat (seat_made c.args.self.now c.args.seat c.requires.made) c.undo_reserve_slots.ensures c.undo_open_slot.ensures.back
