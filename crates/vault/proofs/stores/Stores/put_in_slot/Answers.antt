use Rattle.vault.proofs.Slots.{given_after_room, goes_in_slot, slot_is_there, slot_roomy}
use Rattle.vault.proofs.stores.Stores.put_in_slot.Goals as goal

pub put_within-requires-clause-there : goal.put_within-requires-clause-there
put_within-requires-clause-there c = slot_is_there c.make_room_in_slot.new.self _ _ (slot_roomy c.args.self.now c.make_room_in_slot.new.self c.args.seat c.args.keyword.now c.args.parcel c.in-Ok.ensures.roomed c.requires)

pub put_within-requires-clause-goes : goal.put_within-requires-clause-goes
put_within-requires-clause-goes c = goes_in_slot c.args.self.now c.make_room_in_slot.new.self c.args.seat c.args.keyword.now c.args.parcel c.in-Ok.ensures.roomed c.requires c.value.result.now c.value.ensures c.in-Ok.ensures.value c.in-Ok.ensures.room

pub returns-in-Ok-clause-ok : goal.returns-in-Ok-clause-ok
returns-in-Ok-clause-ok c = given_after_room c.args.self.now c.make_room_in_slot.new.self c.args.seat c.args.keyword.now c.args.parcel c.in-Ok.ensures.roomed c.requires c.put_within.new.self c.put_within.ensures.more c.put_within.ensures.out
