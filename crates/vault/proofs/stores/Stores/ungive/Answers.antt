use Rattle.vault.proofs.Arms.{undone_retire}
use Rattle.vault.proofs.Halves.{half_less}
use Rattle.vault.proofs.Slots.{half_slot_less, slot_gives, slot_is_there, slot_parcel}
use Rattle.vault.proofs.stores.Stores.ungive.Goals as goal

pub undo_put-requires-in-Slot-clause-there : goal.undo_put-requires-in-Slot-clause-there
undo_put-requires-in-Slot-clause-there c = slot_is_there c.args.self.now _ _ (rw c.in-Slot.is at c.requires).slot

pub undo_put-requires-in-Slot-clause-out : goal.undo_put-requires-in-Slot-clause-out
undo_put-requires-in-Slot-clause-out c = slot_gives c.args.self.now _ _ _ _ (rw c.in-Slot.is at c.requires)

pub returns-in-Purse-clause-half : goal.returns-in-Purse-clause-half
returns-in-Purse-clause-half c = rw c.in-Purse.is (half_less c.args.self.now _ _ _ c.undo_put.ensures.taken)

pub returns-in-Slot-clause-half : goal.returns-in-Slot-clause-half
returns-in-Slot-clause-half c = rw c.in-Slot.is (half_slot_less c.args.self.now _ _ _ _ c.undo_put-in-Slot.ensures.less)

pub returns-in-Slot-clause-parcel : goal.returns-in-Slot-clause-parcel
returns-in-Slot-clause-parcel c = slot_parcel c.args.self.now c.in-Slot.seat c.in-Slot.keyword _ _ _ (rw c.in-Slot.is at c.requires).brand c.undo_put-in-Slot.ensures.parcel

pub returns-in-Outside-clause-half : goal.returns-in-Outside-clause-half
returns-in-Outside-clause-half c = rw c.in-Outside.is (undone_retire c.args.self.now _ c.args.brand c.args.value (rw c.in-Outside.is at c.requires).made c.undo_retire.ensures.unretired)
