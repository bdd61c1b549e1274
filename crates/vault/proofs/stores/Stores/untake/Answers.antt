use Rattle.std.proofs.Common.{arith}
use Rattle.vault.proofs.Arms.{undone_issue}
use Rattle.vault.proofs.Halves.{half_more}
use Rattle.vault.proofs.Slots.{half_slot_more, slot_is_there, slot_takes}
use Rattle.vault.proofs.stores.Stores.untake.Goals as goal

pub undo_take-requires-in-Slot-clause-there : goal.undo_take-requires-in-Slot-clause-there
undo_take-requires-in-Slot-clause-there c = slot_is_there c.args.self.now _ _ (rw c.in-Slot.is at c.requires).slot

pub undo_take-requires-in-Slot-clause-goes : goal.undo_take-requires-in-Slot-clause-goes
undo_take-requires-in-Slot-clause-goes c = slot_takes c.args.self.now _ _ _ (rw c.in-Slot.is at c.requires)

pub returns-in-Purse : goal.returns-in-Purse
returns-in-Purse c = rw c.in-Purse.is (half_more c.args.self.now _ _ _ _ c.undo_take.ensures (omega arith))

pub returns-in-Slot : goal.returns-in-Slot
returns-in-Slot c = rw c.in-Slot.is (half_slot_more c.args.self.now _ _ _ _ c.undo_take-in-Slot.ensures.more)

pub returns-in-Outside : goal.returns-in-Outside
returns-in-Outside c = rw c.in-Outside.is (undone_issue c.args.self.now _ c.args.parcel.brand c.args.parcel.value c.undo_issue.ensures)
