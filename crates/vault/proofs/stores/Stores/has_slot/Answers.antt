use Rattle.vault.proofs.SeatReads.{seats_made, slot_told}
use Rattle.vault.proofs.stores.Stores.has_slot.Goals as goal

pub returns : goal.returns
returns c = slot_told c.args.self.now.seats.seats c.args.seat c.args.keyword.now c.has_slot.result (seats_made c.args.self.now.seats.seats c.args.seat c.requires) c.has_slot.ensures.0 c.has_slot.ensures.1
