use Rattle.vault.proofs.Arms.{taken_of_purse}
use Rattle.vault.proofs.Slots.{slot_comes_out, slot_is_there, slot_parcel, taken_of_slot}
use Rattle.std.proofs.Common.{refl}
use Rattle.vault.proofs.stores.Stores.take_from.Goals as goal

pub take_value-requires-in-Slot-clause-there : goal.take_value-requires-in-Slot-clause-there
take_value-requires-in-Slot-clause-there c = slot_is_there c.args.self.now _ _ (rw c.in-Slot.is at c.requires.source).slot

pub take_value-requires-in-Slot-clause-out : goal.take_value-requires-in-Slot-clause-out
take_value-requires-in-Slot-clause-out c = slot_comes_out c.args.self.now _ _ _ (rw c.in-Slot.is at c.requires.source) (rw c.in-Slot.is at c.requires.has)

pub returns-in-Purse-clause-taken : goal.returns-in-Purse-clause-taken
returns-in-Purse-clause-taken c = rw c.in-Purse.is (taken_of_purse c.args.self.now _ c.take_value.new.self c.args.value c.take_value.result (rw c.in-Purse.is at c.requires.source) c.take_value.ensures.taken c.take_value.ensures.parcel c.take_value.ensures.back)

pub returns-in-Slot-clause-taken : goal.returns-in-Slot-clause-taken
returns-in-Slot-clause-taken c = rw c.in-Slot.is (taken_of_slot c.args.self.now _ _ c.take_value-in-Slot.new.self c.args.value (rw c.in-Slot.is at c.requires.source).slot c.take_value-in-Slot.result c.take_value-in-Slot.ensures.less c.take_value-in-Slot.ensures.parcel c.take_value-in-Slot.ensures.back)

pub returns-in-Slot-clause-parcel : goal.returns-in-Slot-clause-parcel
returns-in-Slot-clause-parcel c = rw c.in-Slot.is (slot_parcel c.args.self.now c.in-Slot.seat c.in-Slot.keyword _ _ _ refl c.take_value-in-Slot.ensures.parcel)
